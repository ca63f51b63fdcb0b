-- A run that does what a property excludes gives a model of its formula, so a formula without one
-- says that the protocol has the property.
use Rattle.std.proofs.Common.{ℕ, List, inl, inr}
use Rattle.std.proofs.lemmas.Bool.{both_ways, cases_Bool}
use Rattle.bspl_types.specs.declared.event.Event.{Event}
use Rattle.bspl_types.specs.declared.expanded.Expanded.{Expanded}
use Rattle.bspl_types.specs.declared.property.Property.{Property}
use Rattle.bspl_types.specs.declared.property.Property.TheVariants.{Liveness, Safety}
use Rattle.bspl_types.specs.declared.value.Value.{Value}
use Rattle.clause_core.specs.declared.formula.Formula.{Formula}
use Rattle.clause_core.specs.Clause.{IsUnsatisfiable}
use Rattle.clause_encoding.specs.Formula.{IsFormula, clauses_of}
use Rattle.clause_encoding.specs.Laws.{WrittenIsSatisfied}
use Rattle.enactment_model.specs.Laws.{NoConflictAgrees}
use Rattle.enactment_model.specs.Legal.{IsLegalRun}
use Rattle.enactment_model.specs.Liveness.{Bound, HasPublicValue, Quiet}
use Rattle.enactment_model.specs.Property.{Violates}
use Rattle.enactment_model.specs.Safety.{HasNoConflict}
use Rattle.first_occurrences.specs.Headline.{UnsatisfiableHolds}
use Rattle.first_occurrences.specs.Lacking.{is_bound}
use Rattle.first_occurrences.specs.Laws.{AssignmentExists, BoundExactlyIfSent, RestHolds, RivalsHold, SharedClausesHold, ViolationHasModel}
use Rattle.first_occurrences.proofs.LivenessLemmas.{model_of_unbound}
use Rattle.first_occurrences.proofs.SafetyLemmas.{model_of_conflict}

-- the assignment of the run's first occurrences
pub model_of : AssignmentExists → SharedClausesHold → RivalsHold → RestHolds → ViolationHasModel
model_of exists shared rivals rest Safety x run is_legal has = model_of_conflict exists shared rivals x run is_legal has
model_of exists shared rivals rest Liveness x run is_legal leaves = model_of_unbound exists shared rest x run is_legal leaves

module _ (has_model : ViolationHasModel) (satisfied : WrittenIsSatisfied) where
  -- so if none satisfies the formula, no legal run does
  none_violates : (property : Property) (x : Expanded) (f : Formula) → IsFormula property x f → IsUnsatisfiable f.clauses → (run : List Event) → IsLegalRun x run → Violates property x run → ⊥
  none_violates property x f is none run is_legal violates =
      let model = has_model property x run is_legal violates in
      none model.assignment ((satisfied model.assignment (clauses_of property x) f.clauses is.clauses).1 model.satisfied)

  -- no run has a conflict
  no_conflict : (x : Expanded) (f : Formula) → IsFormula Safety x f → IsUnsatisfiable f.clauses → (run : List Event) → IsLegalRun x run → HasNoConflict x run
  no_conflict x f is none run is_legal key p first second conflict =
      none_violates Safety x f is none run is_legal (record { key = key; param = p; first = first; second = second; conflict = conflict })

  -- each public parameter is bound
  all_bound : BoundExactlyIfSent → (x : Expanded) (f : Formula) → IsFormula Liveness x f → IsUnsatisfiable f.clauses → (run : List Event) (key : List Value) → IsLegalRun x run → Quiet x run key → (p : ℕ) → HasPublicValue x p → Bound x run key p
  all_bound bound x f is none run key is_legal quiet p has = elim (cases_Bool (is_bound x run key p)) as (λ _. Bound x run key p) [
    | inl sent ↦ (bound x run key p is_legal).1 sent
    | inr never ↦ absurd (none_violates Liveness x f is none run is_legal (record { key = key; quiet = quiet; param = p; public = has; unbound = λ is_bound. both_ways _ never ((bound x run key p is_legal).0 is_bound) }))
  ]

  -- and the protocol has the property
  pub holds : NoConflictAgrees → BoundExactlyIfSent → UnsatisfiableHolds
  holds agrees bound Safety x f admitted is none =
      record {
        no_conflict = no_conflict x f is none;
        agree = λ run is_legal. agrees x run admitted is_legal.legal (no_conflict x f is none run is_legal);
      }
  holds agrees bound Liveness x f admitted is none = record { bound = all_bound bound x f is none }
