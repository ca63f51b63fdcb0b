-- What the receipt of one message answers, and what it leaves.
use Rattle.std.specs.Prelude.{◌≡◌, ℕ, ◌<◌, ◌⊎◌, Option, None, Some, slice_get, IsSomeAnd}
use Rattle.bspl_types.specs.declared.envelope.Stamped.{Stamped}
use Rattle.stamped_history.specs.Entries.{clock_limit, last_stamp}
use Rattle.local_store.specs.declared.receipt.Receipt.{Receipt}
use Rattle.local_store.specs.Reception.{IsArrival, IsReceipt}
use Rattle.local_store.specs.State.{StoreState}
use Rattle.adapter.specs.Desk.{DeskState}
use Rattle.adapter.specs.Steps.{IsTaken}

-- the store can take the message, unless its clock or the message's stamp is at its last value
abbrev pub IsAwaited : StoreState → Stamped → Type 0
IsAwaited s m = last_stamp s.entries < clock_limit → m.stamp < clock_limit → IsArrival s m

-- the store receives the message with that answer; or all stays, as one of them is
abbrev pub Receives : StoreState → Stamped → Option Receipt → StoreState → Type 0
Receives old m None new =
    ((last_stamp old.entries ≡ clock_limit) ⊎ (m.stamp ≡ clock_limit)) × (new ≡ old)
Receives old m (Some r) new =
    (last_stamp old.entries < clock_limit) × (m.stamp < clock_limit) × IsReceipt old m r new

-- the envelope at the index is taken; or all stays, as the clock or its stamp is at its last value
abbrev pub TakesAt : ℕ → DeskState → Option Receipt → DeskState → Type 0
TakesAt i old None new =
    ((last_stamp old.store.entries ≡ clock_limit) ⊎
    IsSomeAnd (slice_get old.inbox.envelopes i) (λ e. e.message.stamp ≡ clock_limit)) ×
    (new ≡ old)
TakesAt i old (Some r) new = IsTaken i old r new
