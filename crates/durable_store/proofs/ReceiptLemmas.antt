-- What `receive` answers of a fresh receipt.
use Rattle.std.proofs.Common.{◌≡◌, ℕ, List, refl, subst, sym, ap}
use Rattle.std.specs.Prelude.{Result, Ok, Err, IsErrAnd}
use Rattle.bspl_types.specs.declared.envelope.Stamped.{Stamped}
use Rattle.bspl_io.specs.declared.sink.Trouble.{Trouble}
use Rattle.bspl_io.specs.declared.sink.Trouble.TheVariants.{Failed, NoMemory}
use Rattle.local_store.specs.declared.receipt.Receipt.{Receipt}
use Rattle.local_store.specs.declared.receipt.Receipt.TheVariants.{Fresh}
use Rattle.local_store.specs.Reception.{IsForeseen}
use Rattle.stamped_history.specs.declared.entry.Entry.{Entry}
use Rattle.durable_store.specs.declared.refusals.ReceiveRefusal.{ReceiveRefusal}
use Rattle.durable_store.specs.Calls.{Acknowledged, Ends, EndsWith, Outcome, Unacknowledged}
use Rattle.durable_store.specs.Reception.{IsReceiveAnswer, ReceiptIsCutOff, receipt_entry}
use Rattle.durable_store.specs.State.{DurableState}
use Rattle.durable_store.specs.Troubles.{receive_refusal}

-- a trouble is answered as it is meant
cut_answer : {D : Type 0} (lacks : Type 0) (s : DurableState D) (m : Stamped) (outcome : Outcome) (trouble : Trouble) → (trouble ≡ NoMemory → lacks) → ReceiptIsCutOff s m outcome → IsReceiveAnswer lacks s m (Err (receive_refusal trouble)) outcome
cut_answer lacks s m outcome Failed memory cut = cut
cut_answer lacks s m outcome NoMemory memory cut = (memory refl, cut)

module _ {D : Type 0} (seen : D → List ℕ) (may_leave : D → List ℕ → Type 0) (clock : D → ℕ) (left_since : D → ℕ → List ℕ → Type 0) (lacks : Type 0) (s t : DurableState D) (m : Stamped) (e : Entry) where
  -- a fresh receipt that was not written
  pub receipt_cut : (result : Result Receipt ReceiveRefusal) (trouble : Trouble) → IsErrAnd result (λ refusal. refusal ≡ receive_refusal trouble) → (trouble ≡ NoMemory → lacks) → IsForeseen s.store m Fresh → e ≡ receipt_entry s.store m → Ends seen may_leave clock left_since (Unacknowledged e) s t → EndsWith seen may_leave clock left_since (IsReceiveAnswer lacks s m result) s t
  receipt_cut (Ok r) trouble failed memory fresh is ends = absurd failed
  receipt_cut (Err refusal) trouble failed memory fresh is ends = record {
    outcome = Unacknowledged e;
    allowed = subst (λ (r : ReceiveRefusal). IsReceiveAnswer lacks s m (Err r) (Unacknowledged e)) (sym failed) (cut_answer lacks s m (Unacknowledged e) trouble memory (record { room = ends.0.room; fresh = fresh; ends = ap Unacknowledged is }));
    ends = ends;
  }

  -- one that was
  pub receipt_done : IsForeseen s.store m Fresh → e ≡ receipt_entry s.store m → Ends seen may_leave clock left_since (Acknowledged e) s t → EndsWith seen may_leave clock left_since (IsReceiveAnswer lacks s m (Ok Fresh)) s t
  receipt_done fresh is ends = record {
    outcome = Acknowledged e;
    allowed = (ends.0.room, fresh, ap Acknowledged is);
    ends = ends;
  }
