-- An assignment that meets the condition of a question gives a model of its clauses that has the same runs.
use Rattle.std.proofs.Common.{◌≡◌, ℕ, Bool, true, List, get_or, sym, ◌∙◌, arith, Contains}
use Rattle.std.proofs.lemmas.List.Elements.{All-contains_itself}
use Rattle.bspl_types.specs.declared.event.Event.{Event}
use Rattle.bspl_types.specs.declared.value.Value.{Value}
use Rattle.circuit_clauses.specs.Laws.{MetIsAsserted}
use Rattle.clause_encoding.specs.declared.variables.Variables.{Variables}
use Rattle.clause_encoding.specs.Formula.{plain_variables}
use Rattle.clause_encoding.specs.Laws.{OrderVariablesExist}
use Rattle.clause_encoding.specs.Variables.{IsKind}
use Rattle.first_occurrences.specs.Laws.{AssignmentExists, SharedClausesHold}
use Rattle.first_occurrences.specs.Occurrence.{is_occurring}
use Rattle.first_occurrences.specs.Shown.{ReportsShow, Shows}
use Rattle.witness_replay.specs.Laws.{ModelShows, SharedModelHasRun}
use Rattle.witness_replay.specs.Witness.{AreOrdered, key_of_ones}
use Rattle.question_formula.specs.Laws.{ConditionVariablesExist, MeetingModelExtends, YesExactlyIfMet}
use Rattle.question_formula.proofs.ModelLemmas.{are_plain, reporting_model}

module _ (vars : Variables) (run : List Event) (key : List Value) (v w : ℕ → Bool) (shows_v : Shows vars run key v) (shows_w : Shows vars run key w) where
  -- two assignments that show one run say the same of each kind
  same_kind : (kind : ℕ) → IsKind vars kind → w kind ≡ v kind
  same_kind kind is = shows_w.occurring kind is ∙ sym (shows_v.occurring kind is)

  -- a kind that the one makes occur occurs in the run
  occurs_in : (kinds : List ℕ) (kind : ℕ) → AreOrdered vars v kinds → Contains kinds kind → IsKind vars kind × (is_occurring run key kind ≡ true)
  occurs_in kinds kind ordered among =
      let (is, made) = (ordered.occurring kind).0 among in
      (is, sym (shows_v.occurring kind is) ∙ made)

  -- so they have the same kinds in the same order
  pub ordered_too : (kinds : List ℕ) → AreOrdered vars v kinds → AreOrdered vars w kinds
  ordered_too kinds ordered = record {
    occurring = λ kind. (
      λ among. let (is, made) = (ordered.occurring kind).0 among in (is, same_kind kind is ∙ made),
      λ both. (ordered.occurring kind).1 (both.0, sym (same_kind kind both.0) ∙ both.1),
    );
    ordered = λ i j d less within.
        let (apart, before) = ordered.ordered i j d less within in
        let one = get_or kinds i d in
        let other = get_or kinds j d in
        let (is, occurring) = occurs_in kinds one ordered (All-contains_itself kinds i d (omega (arith, less, within))) in
        let (is_other, occurring_other) = occurs_in kinds other ordered (All-contains_itself kinds j d within) in
        (apart, (shows_w.order one other is is_other apart occurring).1 ((shows_v.order one other is is_other apart occurring).0 before));
  }

-- the run of the assignment answers the question with yes, and a model that reports it is the one
pub meeting_model_extends : ConditionVariablesExist → OrderVariablesExist → AssignmentExists → ReportsShow → SharedClausesHold → MetIsAsserted → YesExactlyIfMet → SharedModelHasRun → ModelShows → MeetingModelExtends
meeting_model_extends over exist assignments show shared asserts meets has_run shows x q v about satisfied met =
    let vars = plain_variables x in
    let key = key_of_ones x in
    let found = has_run x vars v (are_plain x) satisfied in
    let shows_v = shows x vars v found.run (are_plain x) satisfied found.run_of in
    let answered = (meets x vars q found.run key v (are_plain x) about found.legal shows_v).1 met in
    let model = reporting_model over exist assignments show shared asserts meets x q found.run key about found.legal answered in
    let shows_w = show vars found.run key model.assignment model.reports in (
      model.assignment,
      model.satisfied,
      λ run run_of. record {
        kinds = run_of.kinds;
        ordered = ordered_too vars found.run key v model.assignment shows_v shows_w run_of.kinds run_of.ordered;
        run_of = run_of.run_of;
      },
    )
