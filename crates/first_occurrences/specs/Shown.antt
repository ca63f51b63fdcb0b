-- Assignments that show a run: what they say of the kinds that occur is so. A model of a formula
-- says no more of its run.
use Rattle.std.specs.Prelude.{◌≡◌, ◌≢◌, ◌↔◌, ℕ, ◌<◌, Bool, true, List, length, take}
use Rattle.std.specs.List.{Contains, list_any}
use Rattle.bspl_types.specs.declared.event.Event.{Event}
use Rattle.bspl_types.specs.declared.expanded.Expanded.{Expanded}
use Rattle.bspl_types.specs.declared.value.Value.{Value}
use Rattle.bspl_types.specs.History.{history_of, instance_of}
use Rattle.bspl_types.specs.Knowledge.{IsKnown}
use Rattle.clause_core.specs.Literal.{MakesTrue}
use Rattle.clause_encoding.specs.declared.variables.Variables.{Variables}
use Rattle.clause_encoding.specs.Carriers.{carriers}
use Rattle.clause_encoding.specs.Variables.{IsKind, stands_before}
use Rattle.enactment_model.specs.Legal.{IsLegalRun}
use Rattle.first_occurrences.specs.Occurrence.{first_position, is_occurring, kind_of}
use Rattle.first_occurrences.specs.Report.{Reports}

-- the assignment says of each kind whether it occurs, and of a kind that occurs whether it first
-- does so before another
pub record Shows (vars : Variables) (run : List Event) (key : List Value) (v : ℕ → Bool)
    : Type 0 where
  pub occurring : (kind : ℕ) → IsKind vars kind → v kind ≡ is_occurring run key kind
  pub order : (i j : ℕ) → IsKind vars i → IsKind vars j → i ≢ j →
      is_occurring run key i ≡ true →
      (MakesTrue v (stands_before vars i j) ↔ first_position run key i < first_position run key j)

-- an assignment that reports a run shows it
abbrev pub ReportsShow : Type 0
ReportsShow =
    (vars : Variables) (run : List Event) (key : List Value) (v : ℕ → Bool) →
    Reports vars run key v → Shows vars run key v

-- in a legal run a role knows a parameter exactly if some kind occurs that makes it known there
abbrev pub KnownExactlyIfCarried : Type 0
KnownExactlyIfCarried =
    (x : Expanded) (run : List Event) (key : List Value) (role p : ℕ) → IsLegalRun x run →
    (IsKnown x (history_of x role run) key p ↔
    (list_any (is_occurring run key) (carriers x role p) ≡ true))

-- an event of the run, under the key and of the kind
pub record HasEventOfKind (run : List Event) (key : List Value) (kind : ℕ) : Type 0 where
  pub event : Event
  pub among : Contains run event
  pub under : (instance_of event).key ≡ key
  pub of_kind : kind_of event ≡ kind

-- a kind occurs exactly if there is one
abbrev pub OccursExactlyIfSomeEvent : Type 0
OccursExactlyIfSomeEvent =
    (run : List Event) (key : List Value) (kind : ℕ) →
    (is_occurring run key kind ≡ true) ↔ HasEventOfKind run key kind

-- and it occurs among the first events exactly if its first position is among theirs
abbrev pub OccursExactlyIfWithin : Type 0
OccursExactlyIfWithin =
    (run : List Event) (key : List Value) (kind n : ℕ) →
    (is_occurring (take n run) key kind ≡ true) ↔
    (first_position run key kind < length (take n run))
