-- What the receipts of a history wait for.
use Rattle.std.specs.Prelude.{ℕ, List}
use Rattle.std.specs.List.{AllZip, Contains}
use Rattle.bspl_types.specs.declared.event.Event.{Event}
use Rattle.bspl_types.specs.declared.event.Event.TheVariants.{Emit, Receive}
use Rattle.bspl_types.specs.declared.expanded.Expanded.{Expanded}
use Rattle.bspl_types.specs.Expansion.{message_of}
use Rattle.run_index.specs.FirstEmission.{IsFirstEmission}
use Rattle.history_audit.specs.BadPlace.{AllMayHappen}
use Rattle.history_audit.specs.Histories.{events_at}

-- a receipt waits for the first emission of its instance: this is its index in its sender's history
abbrev pub IsWait : Expanded → List (List Event) → Event → ℕ → Type 0
IsWait x histories (Emit i) wait = Unit {0}
IsWait x histories (Receive i) wait =
    IsFirstEmission (events_at histories (message_of x i.message).sender) i wait

-- so for each event of a history
abbrev pub AreWaits : Expanded → List (List Event) → List Event → List ℕ → Type 0
AreWaits x histories history waits = AllZip (IsWait x histories) history waits

-- and for each history
abbrev pub HaveWaits : Expanded → List (List Event) → List (List ℕ) → Type 0
HaveWaits x histories waits = AllZip (AreWaits x histories) histories waits

-- no place is bad, and these are the waits
pub record IsJudged (x : Expanded) (histories : List (List Event)) (waits : List (List ℕ))
    : Type 0 where
  pub none_bad : AllMayHappen x histories
  pub are_waits : HaveWaits x histories waits

-- a receipt is of something that its sender's history emits
abbrev pub IsSent : Expanded → List (List Event) → Event → Type 0
IsSent x histories (Emit i) = Unit {0}
IsSent x histories (Receive i) =
    Contains (events_at histories (message_of x i.message).sender) (Emit i)
