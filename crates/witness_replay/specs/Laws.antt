-- A model of the shared clauses has a run; one of the formula of a property refutes the property.
use Rattle.std.specs.Prelude.{◌≡◌, ℕ, Bool, List}
use Rattle.std.specs.List.{All, Contains}
use Rattle.bspl_types.specs.declared.event.Event.{Event}
use Rattle.bspl_types.specs.declared.event.Event.TheVariants.{Emit}
use Rattle.bspl_types.specs.declared.event.Instance.{Instance}
use Rattle.bspl_types.specs.declared.expanded.Expanded.{Expanded}
use Rattle.bspl_types.specs.declared.property.Property.{Property}
use Rattle.bspl_types.specs.Admission.{IsAdmitted}
use Rattle.bspl_types.specs.History.{instance_of}
use Rattle.clause_core.specs.Clause.{SatisfiesAll}
use Rattle.clause_encoding.specs.declared.variables.Variables.{Variables}
use Rattle.clause_encoding.specs.Families.{shared_clauses}
use Rattle.clause_encoding.specs.Formula.{clauses_of}
use Rattle.enactment_model.specs.Legal.{IsLegalRun}
use Rattle.enactment_model.specs.Property.{Holds}
use Rattle.first_occurrences.specs.Report.{AreVariablesOf}
use Rattle.first_occurrences.specs.Shown.{Shows}
use Rattle.witness_replay.specs.Refuting.{Refutes}
use Rattle.witness_replay.specs.Witness.{IsRunOfAssignment, IsRunOfKinds, key_of_ones}

-- the run of an assignment, which is legal
pub record HasRunOf (x : Expanded) (vars : Variables) (v : ℕ → Bool) : Type 0 where
  pub run : List Event
  pub run_of : IsRunOfAssignment x vars v run
  pub legal : IsLegalRun x run

-- an assignment that satisfies the clauses that all formulas share has such a run
abbrev pub SharedModelHasRun : Type 0
SharedModelHasRun =
    (x : Expanded) (vars : Variables) (v : ℕ → Bool) → AreVariablesOf x vars →
    SatisfiesAll v (shared_clauses x vars) → HasRunOf x vars v

-- each of its runs is legal
abbrev pub RunOfModelIsLegal : Type 0
RunOfModelIsLegal =
    (x : Expanded) (vars : Variables) (v : ℕ → Bool) (run : List Event) → AreVariablesOf x vars →
    SatisfiesAll v (shared_clauses x vars) → IsRunOfAssignment x vars v run → IsLegalRun x run

-- and it shows each of its runs at the key of ones
abbrev pub ModelShows : Type 0
ModelShows =
    (x : Expanded) (vars : Variables) (v : ℕ → Bool) (run : List Event) → AreVariablesOf x vars →
    SatisfiesAll v (shared_clauses x vars) → IsRunOfAssignment x vars v run →
    Shows vars run (key_of_ones x) v

-- the run of an assignment emits each message once at most
abbrev pub RunEmitsOnce : Type 0
RunEmitsOnce =
    (x : Expanded) (vars : Variables) (v : ℕ → Bool) (run : List Event) (i j : Instance) →
    IsRunOfAssignment x vars v run → Contains run (Emit i) → Contains run (Emit j) →
    i.message ≡ j.message → i ≡ j

-- each event of a run of kinds is under the key of ones
abbrev pub RunIsUnderOnes : Type 0
RunIsUnderOnes =
    (x : Expanded) (kinds : List ℕ) (run : List Event) → IsRunOfKinds x kinds run →
    All (λ e. (instance_of e).key ≡ key_of_ones x) run

-- a legal run that refutes the property
pub record HasRefutation (property : Property) (x : Expanded) : Type 0 where
  pub run : List Event
  pub legal : IsLegalRun x run
  pub refutes : Refutes property x run

-- an assignment that satisfies the clauses of the property gives such a run
abbrev pub ModelRefutes : Type 0
ModelRefutes =
    (property : Property) (x : Expanded) (v : ℕ → Bool) → IsAdmitted x →
    SatisfiesAll v (clauses_of property x) → HasRefutation property x

-- so the protocol does not have the property
abbrev pub ModelDoesNotHold : Type 0
ModelDoesNotHold =
    (property : Property) (x : Expanded) (v : ℕ → Bool) → IsAdmitted x →
    SatisfiesAll v (clauses_of property x) → ¬ Holds property x
