-- A conflict of a legal run gives an assignment that satisfies the safety clauses of its protocol.
use Rattle.std.proofs.Common.{ℕ, ◌+◌, ◌-◌, Bool, List, get_or, refl, ap, ◌∙◌, arith}
use Rattle.std.specs.Prelude.{◌&&◌}
use Rattle.std.proofs.lemmas.List.Elements.{All-append}
use Rattle.bspl_types.specs.declared.event.Event.{Event}
use Rattle.bspl_types.specs.declared.expanded.Expanded.{Expanded}
use Rattle.bspl_types.specs.declared.value.Value.{Value}
use Rattle.clause_core.specs.Clause.{Satisfies}
use Rattle.clause_encoding.specs.declared.rivals.Rivals.{Rivals}
use Rattle.clause_encoding.specs.Families.{shared_clauses}
use Rattle.clause_encoding.specs.Formula.{safety_clauses, safety_variables}
use Rattle.clause_encoding.specs.Rivals.{rival_clauses, rivals_of}
use Rattle.clause_encoding.specs.Variables.{kind_count, sent}
use Rattle.enactment_model.specs.Legal.{IsLegalRun}
use Rattle.enactment_model.specs.Property.{HasConflict}
use Rattle.first_occurrences.specs.Laws.{AssignmentExists, HasModel, RivalsHold, SelectsWhatIsSent, SharedClausesHold}
use Rattle.first_occurrences.specs.Occurrence.{is_occurring}
use Rattle.first_occurrences.specs.Report.{AreVariablesOf, HasBetween}
use Rattle.first_occurrences.proofs.ListedLemmas.{numbered_from}

-- both rivals are sent under the key
abbrev are_sent : List Event → List Value → Rivals → Bool
are_sent run key two = is_occurring run key (sent two.first) && is_occurring run key (sent two.second)

-- the selection of what is sent
abbrev selection : Expanded → List Event → List Value → ℕ → Bool
selection x run key variable =
    are_sent run key (get_or (rivals_of x) (variable - (kind_count x + 1)) (record { param = 0; first = 0; second = 0 }))

-- an assignment that has its values between selects what is sent
selects_sent : (x : Expanded) (run : List Event) (key : List Value) (v : ℕ → Bool) → HasBetween (safety_variables x) (selection x run key) v → SelectsWhatIsSent x run key v
selects_sent x run key v between variable two among =
    let numbered = numbered_from (kind_count x + 1) (rivals_of x) variable two among in
    between variable (omega arith) (omega arith) ∙ ap (are_sent run key) (numbered.item (record { param = 0; first = 0; second = 0 }))

-- the variables of the safety formula are such variables
variables_of : (x : Expanded) → AreVariablesOf x (safety_variables x)
variables_of x = record { kinds = refl; occurrences_first = omega arith }

-- the assignment of the run's first occurrences that selects what is sent
pub model_of_conflict : AssignmentExists → SharedClausesHold → RivalsHold → (x : Expanded) (run : List Event) → IsLegalRun x run → HasConflict x run → HasModel (safety_clauses x)
model_of_conflict exists shared rivals x run is_legal has =
    let vars = safety_variables x in
    let (v, reports, between) = exists vars run has.key (selection x run has.key) (omega arith) in
    record {
      assignment = v;
      satisfied =
          All-append (Satisfies v) (shared_clauses x vars) (rival_clauses x)
          (shared x vars run has.key v (variables_of x) is_legal reports)
          (rivals x run has.key has.param has.first has.second v is_legal has.conflict reports (selects_sent x run has.key v between));
    }
