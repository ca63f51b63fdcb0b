-- A message is dead exactly if its clauses have no model.
use Rattle.std.proofs.Common.{◌≡◌, ℕ, ◌<◌, true, false, List, length, refl, sym, ap, ◌∙◌, subst, arith}
use Rattle.std.specs.Prelude.{◌==◌}
use Rattle.std.proofs.lemmas.Bool.{and_from, eq-eqb}
use Rattle.std.proofs.lemmas.List.Elements.{All-append, All-contains}
use Rattle.std.proofs.lemmas.List.Folds.{list_any-from_Any}
use Rattle.list_base.proofs.Membership.{all_prefix}
use Rattle.bspl_types.specs.declared.event.Event.TheVariants.{Emit}
use Rattle.bspl_types.specs.declared.expanded.Expanded.{Expanded}
use Rattle.bspl_types.specs.History.{instance_of}
use Rattle.bspl_types.specs.Instance.{Fits}
use Rattle.bspl_types.specs.Value.{EqualValuesAreOne, equal_values}
use Rattle.clause_core.specs.Clause.{Satisfies}
use Rattle.clause_encoding.specs.Families.{shared_clauses}
use Rattle.clause_encoding.specs.Formula.{safety_variables}
use Rattle.clause_encoding.specs.Laws.{WrittenIsSatisfied}
use Rattle.clause_encoding.specs.Variables.{sent}
use Rattle.first_occurrences.specs.Laws.{AssignmentExists, HasModel, SharedClausesHold}
use Rattle.first_occurrences.specs.Occurrence.{is_occurring, is_of_kind}
use Rattle.first_occurrences.specs.Report.{AreVariablesOf}
use Rattle.witness_replay.specs.Laws.{SharedModelHasRun}
use Rattle.enactability.specs.Enactable.{Enactable}
use Rattle.enactability.specs.EnactFormula.{enact_clauses, sent_clause}
use Rattle.enactability.specs.Laws.{DeadExactlyIfNoModel, ModelEnacts, NoModelIsDead}
use Rattle.enactability.specs.inner.Search.{CutEnacts, IsModelRun}
use Rattle.enactability.proofs.AnswerLemmas.{model_emits}
use Rattle.enactability.proofs.CutLemmas.{some_first_cut}
use Rattle.enactability.proofs.EmissionLemmas.{sent_kind, sent_satisfied}

-- the variables of the safety formula are such variables
are_variables : (x : Expanded) → AreVariablesOf x (safety_variables x)
are_variables x = record { kinds = refl; occurrences_first = omega arith }

-- a message that can be enacted gives its clauses a model: the first occurrences of the run
model_of_enactable : EqualValuesAreOne → AssignmentExists → SharedClausesHold → (x : Expanded) (m : ℕ) → Enactable x m → HasModel (enact_clauses x m)
model_of_enactable exact exists shared x m one =
    let vars = safety_variables x in
    let i = one.instance in
    let (k, within, is) = one.emitted in
    let (v, reports, between) = exists vars one.run i.key (λ _. false) (omega arith) in
    let known : m < length x.messages = subst (λ n. n < length x.messages) one.message_is (All-contains (λ e. Fits x (instance_of e)) one.run (Emit i) one.legal.fits one.emitted).known in
    let occurs : is_occurring one.run i.key (sent m) ≡ true = list_any-from_Any (is_of_kind i.key (sent m)) one.run
    (k, Emit i, within, is, and_from (equal_values i.key i.key) (sent i.message == sent m) ((exact i.key i.key).1 refl) (eq-eqb (sent i.message) (sent m) (ap sent one.message_is))) in
    record {
      assignment = v;
      satisfied = All-append (Satisfies v) (shared_clauses x vars) (sent_clause m)
          (shared x vars one.run i.key v (are_variables x) one.legal reports)
          (sent_satisfied v m (reports.occurring (sent m) (sent_kind x m known) ∙ occurs));
    }

-- so without a model it is dead
pub dead_without : EqualValuesAreOne → AssignmentExists → SharedClausesHold → WrittenIsSatisfied → NoModelIsDead
dead_without exact exists shared written x m f is none enactable =
    let model = model_of_enactable exact exists shared x m enactable in
    none model.assignment ((written model.assignment (enact_clauses x m) f.clauses is.clauses).1 model.satisfied)

-- the run of a model, cut after its first emission of the message
pub enacts : SharedModelHasRun → CutEnacts → ModelEnacts
enacts has cut_enacts x m v known satisfied =
    let vars = safety_variables x in
    let shared = all_prefix (Satisfies v) (shared_clauses x vars) (sent_clause m) satisfied in
    let found = has x vars v (are_variables x) shared in
    let model : IsModelRun x found.run = record { assignment = v; satisfied = shared; run_of = found.run_of; legal = found.legal } in
    let (run, is_cut) = some_first_cut found.run m (model_emits x m v found.run found.run_of known satisfied) in
    record { run = run; enacted = cut_enacts x m found.run run model is_cut }

-- both ways
pub exactly : EqualValuesAreOne → AssignmentExists → SharedClausesHold → ModelEnacts → DeadExactlyIfNoModel
exactly exact exists shared has_run x m known = (
  λ dead v satisfied. dead (has_run x m v known satisfied).enacted.enactable,
  λ none enactable.
      let model = model_of_enactable exact exists shared x m enactable in
      none model.assignment model.satisfied,
)
