-- What `receive` answers, and how it ends.
use Rattle.std.specs.Prelude.{◌≡◌, ◌+◌, max, true, false, Result, Ok, Err}
use Rattle.stamped_history.specs.declared.entry.Entry.{Entry}
use Rattle.stamped_history.specs.Entries.{last_stamp}
use Rattle.bspl_types.specs.declared.envelope.Stamped.{Stamped}
use Rattle.bspl_types.specs.declared.event.Event.TheVariants.{Receive}
use Rattle.local_store.specs.declared.receipt.Receipt.{Receipt}
use Rattle.local_store.specs.declared.receipt.Receipt.TheVariants.{Fresh, Repeat, Differs}
use Rattle.local_store.specs.Reception.{IsForeseen}
use Rattle.local_store.specs.State.{StoreState}
use Rattle.durable_store.specs.declared.refusals.ReceiveRefusal.{ReceiveRefusal}
use Rattle.durable_store.specs.declared.refusals.ReceiveRefusal.TheVariants.{Spent, Full}
use Rattle.durable_store.specs.declared.refusals.ReceiveRefusal.TheVariants.{DiskFault, NoMemory}
use Rattle.durable_store.specs.Calls.{HasRoom, Outcome, Unchanged, Acknowledged, Unacknowledged}
use Rattle.durable_store.specs.State.{DurableState}

-- the entry of a receipt: its stamp is above the clock and the message's stamp (Lamport 1978)
abbrev pub receipt_entry : StoreState → Stamped → Entry
receipt_entry s m = record {
  event = Receive m.instance;
  stamp = max (last_stamp s.entries) m.stamp + 1;
  number = m.number;
}

-- a fresh receipt is acknowledged, and one that is repeated or differs changes nothing
abbrev pub receipt_outcome : StoreState → Stamped → Receipt → Outcome
receipt_outcome s m Fresh = Acknowledged (receipt_entry s m)
receipt_outcome s m Repeat = Unchanged
receipt_outcome s m (Differs param kept arrived) = Unchanged

-- a fresh receipt was not acknowledged
pub record ReceiptIsCutOff {D : Type 0} (s : DurableState D) (m : Stamped) (outcome : Outcome)
    : Type 0 where
  pub room : HasRoom s
  pub fresh : IsForeseen s.store m Fresh
  pub ends : outcome ≡ Unacknowledged (receipt_entry s.store m)

-- what holds of the store if this is the answer, and how the call ends; memory runs out only if the
-- disk may lack it
abbrev pub IsReceiveAnswer : {D : Type 0} → Type 0 → DurableState D → Stamped →
    Result Receipt ReceiveRefusal → Outcome → Type 0
IsReceiveAnswer lacks s m (Ok receipt) outcome =
    HasRoom s × IsForeseen s.store m receipt × (outcome ≡ receipt_outcome s.store m receipt)
IsReceiveAnswer lacks s m (Err Spent) outcome = (s.spent ≡ true) × (outcome ≡ Unchanged)
IsReceiveAnswer lacks s m (Err Full) outcome =
    (s.spent ≡ false) × (s.store.spare ≡ 0) × (outcome ≡ Unchanged)
IsReceiveAnswer lacks s m (Err DiskFault) outcome = ReceiptIsCutOff s m outcome
IsReceiveAnswer lacks s m (Err NoMemory) outcome = lacks × ReceiptIsCutOff s m outcome
