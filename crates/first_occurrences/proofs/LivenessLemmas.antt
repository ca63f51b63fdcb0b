-- A public parameter that is unbound at a key at which a legal run is quiet gives an assignment that
-- satisfies the liveness clauses of its protocol.
use Rattle.std.proofs.Common.{ℕ, ◌+◌, ◌-◌, Bool, cond, leb, List, length, get_or, not, ap, ◌∙◌, arith}
use Rattle.std.proofs.lemmas.Bool.{cond-false, cond-true, le-leb, lt-leb}
use Rattle.std.proofs.lemmas.List.Elements.{All-append}
use Rattle.bspl_types.specs.declared.event.Event.{Event}
use Rattle.bspl_types.specs.declared.expanded.Expanded.{Expanded}
use Rattle.bspl_types.specs.declared.value.Value.{Value}
use Rattle.clause_core.specs.Clause.{Satisfies}
use Rattle.clause_encoding.specs.declared.wants.Want.{Want}
use Rattle.clause_encoding.specs.Families.{shared_clauses}
use Rattle.clause_encoding.specs.Formula.{liveness_clauses, liveness_variables}
use Rattle.clause_encoding.specs.Rest.{public_values, rest_clauses, wants_of}
use Rattle.clause_encoding.specs.Variables.{kind_count}
use Rattle.enactment_model.specs.Legal.{IsLegalRun}
use Rattle.enactment_model.specs.Property.{LeavesUnbound}
use Rattle.first_occurrences.specs.Lacking.{SaysWhatIsLacking, is_bound, is_supplied}
use Rattle.first_occurrences.specs.Laws.{AssignmentExists, HasModel, RestHolds, SharedClausesHold}
use Rattle.first_occurrences.specs.Report.{HasBetween}
use Rattle.first_occurrences.proofs.ExhaustionLemmas.{variables_of}
use Rattle.first_occurrences.proofs.ListedLemmas.{numbered_from}

-- no parameter of the first message
abbrev no_want : Want
no_want = record { message = 0; param = 0 }

-- the last variable of those that say what is unbound
abbrev last_unbound : Expanded → ℕ
last_unbound x = kind_count x + length (public_values x)

-- the values of the variables that say what is unbound and what is lacking
abbrev lacking : Expanded → List Event → List Value → ℕ → Bool
lacking x run key variable =
    cond (leb variable (last_unbound x))
    (not (is_bound x run key (get_or (public_values x) (variable - (kind_count x + 1)) 0)))
    (not (is_supplied x run key (get_or (wants_of x) (variable - (last_unbound x + 1)) no_want)))

-- an assignment that has these values between says what is lacking
says_lacking : (x : Expanded) (run : List Event) (key : List Value) (v : ℕ → Bool) → HasBetween (liveness_variables x) (lacking x run key) v → SaysWhatIsLacking x run key v
says_lacking x run key v between = record {
  unbound = λ variable p among.
      let numbered = numbered_from (kind_count x + 1) (public_values x) variable p among in
      between variable (omega arith) (omega arith) ∙
      cond-true (leb variable (last_unbound x)) _ _ (le-leb variable (last_unbound x) (omega arith)) ∙
      ap (λ q. not (is_bound x run key q)) (numbered.item 0);
  lacking = λ variable want among.
      let numbered = numbered_from (last_unbound x + 1) (wants_of x) variable want among in
      between variable (omega arith) (omega arith) ∙
      cond-false (leb variable (last_unbound x)) _ _ (lt-leb variable (last_unbound x) (omega arith)) ∙
      ap (λ w. not (is_supplied x run key w)) (numbered.item no_want);
}

-- the assignment of the run's first occurrences that says what is lacking
pub model_of_unbound : AssignmentExists → SharedClausesHold → RestHolds → (x : Expanded) (run : List Event) → IsLegalRun x run → LeavesUnbound x run → HasModel (liveness_clauses x)
model_of_unbound exists shared rest x run is_legal leaves =
    let vars = liveness_variables x in
    let (v, reports, between) = exists vars run leaves.key (lacking x run leaves.key) (omega arith) in
    record {
      assignment = v;
      satisfied =
          All-append (Satisfies v) (shared_clauses x vars) (rest_clauses x)
          (shared x vars run leaves.key v (variables_of x) is_legal reports)
          (rest x run leaves.key leaves.param v is_legal leaves.quiet leaves.public leaves.unbound reports (says_lacking x run leaves.key v between));
    }
