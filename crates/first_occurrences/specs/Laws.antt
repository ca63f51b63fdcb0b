-- What the first occurrences of a legal run satisfy. Each statement is the contract of a function.
use Rattle.std.specs.Prelude.{◌≡◌, ◌↔◌, ℕ, ◌≤◌, ◌&&◌, Bool, true, List}
use Rattle.std.specs.List.{Contains}
use Rattle.bspl_types.specs.declared.event.Event.{Event}
use Rattle.bspl_types.specs.declared.expanded.Expanded.{Expanded}
use Rattle.bspl_types.specs.declared.property.Property.{Property}
use Rattle.bspl_types.specs.declared.value.Value.{Value}
use Rattle.clause_core.specs.Clause.{SatisfiesAll}
use Rattle.clause_core.specs.Written.{Written}
use Rattle.clause_encoding.specs.declared.rivals.Rivals.{Rivals}
use Rattle.clause_encoding.specs.declared.variables.Variables.{Variables}
use Rattle.clause_encoding.specs.Families.{delivery_clauses, freshness_clauses, occurrence_clauses, order_clauses, premise_clauses, shared_clauses}
use Rattle.clause_encoding.specs.Formula.{clauses_of, liveness_variables, safety_variables}
use Rattle.clause_encoding.specs.Rest.{rest_clauses}
use Rattle.clause_encoding.specs.Rivals.{rival_clauses, selectors}
use Rattle.clause_encoding.specs.Variables.{sent}
use Rattle.enactment_model.specs.Legal.{IsLegalRun}
use Rattle.enactment_model.specs.Liveness.{Bound, HasPublicValue, Quiet}
use Rattle.enactment_model.specs.Property.{Violates}
use Rattle.enactment_model.specs.Safety.{Conflict}
use Rattle.first_occurrences.specs.Lacking.{SaysWhatIsLacking, is_bound}
use Rattle.first_occurrences.specs.Occurrence.{is_occurring}
use Rattle.first_occurrences.specs.Report.{AreVariablesOf, HasBetween, Reports}

-- each run has an assignment that reports it, with any values at the variables between
abbrev pub AssignmentExists : Type 0
AssignmentExists =
    (vars : Variables) (run : List Event) (key : List Value) (others : ℕ → Bool) →
    vars.kinds ≤ vars.order_base →
    (v : ℕ → Bool) × Reports vars run key v × HasBetween vars others v

-- an assignment that reports a run satisfies the clauses of order
abbrev pub OrderHolds : Type 0
OrderHolds =
    (vars : Variables) (run : List Event) (key : List Value) (v : ℕ → Bool) →
    Reports vars run key v → SatisfiesAll v (order_clauses vars)

-- and those of occurrence
abbrev pub OccurrenceHolds : Type 0
OccurrenceHolds =
    (vars : Variables) (run : List Event) (key : List Value) (v : ℕ → Bool) →
    Reports vars run key v → SatisfiesAll v (occurrence_clauses vars)

-- if the run is legal, then those of delivery
abbrev pub DeliveryHolds : Type 0
DeliveryHolds =
    (x : Expanded) (vars : Variables) (run : List Event) (key : List Value) (v : ℕ → Bool) →
    AreVariablesOf x vars → IsLegalRun x run → Reports vars run key v →
    SatisfiesAll v (delivery_clauses x vars)

-- and those of premises
abbrev pub PremisesHold : Type 0
PremisesHold =
    (x : Expanded) (vars : Variables) (run : List Event) (key : List Value) (v : ℕ → Bool) →
    AreVariablesOf x vars → IsLegalRun x run → Reports vars run key v →
    SatisfiesAll v (premise_clauses x vars)

-- and those of freshness
abbrev pub FreshnessHolds : Type 0
FreshnessHolds =
    (x : Expanded) (vars : Variables) (run : List Event) (key : List Value) (v : ℕ → Bool) →
    AreVariablesOf x vars → IsLegalRun x run → Reports vars run key v →
    SatisfiesAll v (freshness_clauses x vars)

-- together: the families that all formulas share
abbrev pub SharedClausesHold : Type 0
SharedClausesHold =
    (x : Expanded) (vars : Variables) (run : List Event) (key : List Value) (v : ℕ → Bool) →
    AreVariablesOf x vars → IsLegalRun x run → Reports vars run key v →
    SatisfiesAll v (shared_clauses x vars)

-- the assignment selects two rivals exactly if both are sent
abbrev pub SelectsWhatIsSent : Expanded → List Event → List Value → (ℕ → Bool) → Type 0
SelectsWhatIsSent x run key v =
    (variable : ℕ) (rivals : Rivals) → Contains (selectors x) (variable, rivals) →
    v variable ≡ (is_occurring run key (sent rivals.first) &&
    is_occurring run key (sent rivals.second))

-- if a legal run has a conflict under the key, then the clauses of rival producers
abbrev pub RivalsHold : Type 0
RivalsHold =
    (x : Expanded) (run : List Event) (key : List Value) (p first second : ℕ) (v : ℕ → Bool) →
    IsLegalRun x run → Conflict x run key p first second →
    Reports (safety_variables x) run key v → SelectsWhatIsSent x run key v →
    SatisfiesAll v (rival_clauses x)

-- in a legal run a parameter is bound exactly if some message that adorns it `in` or `out` is sent
abbrev pub BoundExactlyIfSent : Type 0
BoundExactlyIfSent =
    (x : Expanded) (run : List Event) (key : List Value) (p : ℕ) → IsLegalRun x run →
    ((Bound x run key p) ↔ (is_bound x run key p ≡ true))

-- if a legal run is quiet at the key and a public parameter is not bound there, then the clauses
-- that liveness adds
abbrev pub RestHolds : Type 0
RestHolds =
    (x : Expanded) (run : List Event) (key : List Value) (p : ℕ) (v : ℕ → Bool) →
    IsLegalRun x run → Quiet x run key → HasPublicValue x p → ¬ Bound x run key p →
    Reports (liveness_variables x) run key v → SaysWhatIsLacking x run key v →
    SatisfiesAll v (rest_clauses x)

-- an assignment that satisfies the clauses
pub record HasModel (clauses : List Written) : Type 0 where
  pub assignment : ℕ → Bool
  pub satisfied : SatisfiesAll assignment clauses

-- each legal run that does what a property excludes gives one of the clauses of its formula
abbrev pub ViolationHasModel : Type 0
ViolationHasModel =
    (property : Property) (x : Expanded) (run : List Event) → IsLegalRun x run →
    Violates property x run → HasModel (clauses_of property x)
