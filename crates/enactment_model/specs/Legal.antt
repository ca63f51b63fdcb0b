-- Which runs are legal: what is emitted is enabled, and what is received was emitted.
use Rattle.std.specs.Prelude.{◌≡◌, ℕ, List, [], ◌∷◌, ◌++◌, take, slice_get, Some}
use Rattle.std.specs.List.{Contains}
use Rattle.bspl_types.specs.declared.event.Event.{Event}
use Rattle.bspl_types.specs.declared.event.Event.TheVariants.{Emit, Receive}
use Rattle.bspl_types.specs.declared.expanded.Expanded.{Expanded}
use Rattle.bspl_types.specs.Expansion.{message_of}
use Rattle.bspl_types.specs.History.{history_of, IsRun}
use Rattle.bspl_types.specs.Knowledge.{IsEnabled}

-- an emission is enabled in its sender's history so far; what is received was emitted before
abbrev pub MayFollow : Expanded → List Event → Event → Type 0
MayFollow x before (Emit i) = IsEnabled x (history_of x (message_of x i.message).sender before) i
MayFollow x before (Receive i) = Contains before (Emit i)

-- each event of the run may follow the earlier events and those before it in the run
abbrev pub LegalAfter : Expanded → List Event → List Event → Type 0
LegalAfter x earlier [] = Unit {0}
LegalAfter x earlier (event ∷ run) =
    MayFollow x earlier event × LegalAfter x (earlier ++ event ∷ []) run

-- each event may follow those before it
abbrev pub IsLegal : Expanded → List Event → Type 0
IsLegal x run = LegalAfter x [] run

-- each event's instance fits the protocol, and each event may follow those before it
pub record IsLegalRun (x : Expanded) (run : List Event) : Type 0 where
  pub fits : IsRun x run
  pub legal : IsLegal x run

-- the event at each position may follow the events before that position
abbrev pub EachMayFollow : Expanded → List Event → Type 0
EachMayFollow x run =
    (position : ℕ) (event : Event) → slice_get run position ≡ Some event →
    MayFollow x (take position run) event
