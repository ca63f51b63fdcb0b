-- A model's run, cut after its first emission of the message, is the evidence that it can be enacted.
use Rattle.std.proofs.Common.{◌≡◌, ℕ, Option, None, Some, ◌<◌, ◌≤◌, Bool, true, List, [], ◌∷◌, ◌++◌, length, take, refl, sym, ap, ◌∙◌, subst, arith, All, Contains}
use Rattle.std.specs.Prelude.{IsSome, MatchOption}
use Rattle.std.proofs.lemmas.List.{take-append-le, take_all}
use Rattle.std.proofs.lemmas.List.Elements.{All-append, All-contains, Contains-append_left}
use Rattle.list_base.proofs.Members.{end_same}
use Rattle.list_base.proofs.Membership.{all_prefix}
use Rattle.bspl_types.specs.declared.event.Event.{Event}
use Rattle.bspl_types.specs.declared.event.Event.TheVariants.{Emit}
use Rattle.bspl_types.specs.declared.expanded.Expanded.{Expanded}
use Rattle.bspl_types.specs.declared.property.Property.TheVariants.{Safety}
use Rattle.bspl_types.specs.History.{instance_of}
use Rattle.clause_core.specs.declared.formula.Formula.{Formula}
use Rattle.clause_core.specs.Assignment.{valuation}
use Rattle.clause_core.specs.Clause.{Satisfies, SatisfiesAll}
use Rattle.clause_encoding.specs.Families.{shared_clauses}
use Rattle.clause_encoding.specs.Formula.{safety_variables}
use Rattle.clause_encoding.specs.Laws.{ClausesAreAsMany, VariablesAreFew, WrittenIsSatisfied}
use Rattle.clause_encoding.specs.Variables.{variable_count}
use Rattle.enactment_model.specs.Laws.{PrefixIsLegalRun}
use Rattle.enactment_model.specs.Legal.{IsLegalRun}
use Rattle.refutation_log.specs.declared.refutation.Log.{Log}
use Rattle.sat_solver.specs.declared.outcome.Outcome.TheVariants.{Budget, Sat, Unsat}
use Rattle.sat_solver.specs.Outcome.{IsModel}
use Rattle.verdict.specs.Decision.{IsUndecidedVerdict}
use Rattle.verdict.specs.Numbers.{NumbersInRange}
use Rattle.verdict.specs.Search.{IsFound}
use Rattle.witness_replay.specs.Laws.{RunIsUnderOnes}
use Rattle.witness_replay.specs.Witness.{IsRunOfAssignment, key_of_ones}
use Rattle.enactability.specs.declared.outcome.Enact.{Enact}
use Rattle.enactability.specs.declared.outcome.Enact.TheVariants.{Dead, Enacted, Undecided}
use Rattle.enactability.specs.Answer.{HasEnactLogInRange, IsCutAfter, IsDead, IsEnacted, IsRightEnact}
use Rattle.enactability.specs.EnactFormula.{IsEnactFormula, enact_clauses, sent_clause}
use Rattle.enactability.specs.Laws.{EnactClausesAreFew, NoModelIsDead}
use Rattle.enactability.specs.inner.Emission.{HasEmission, IsCutOfOne}
use Rattle.enactability.specs.inner.Search.{CutEnacts, IsModelRun}
use Rattle.enactability.proofs.ClauseLemmas.{formula_few}
use Rattle.enactability.proofs.EmissionLemmas.{emitted_sent, is_sent, sent_emitted, sent_satisfied}

-- the event is under the key of ones
abbrev HasOnes : Expanded → Event → Type 0
HasOnes x e = (instance_of e).key ≡ key_of_ones x

-- the run of a model, cut so
pub enacted_of : PrefixIsLegalRun → RunIsUnderOnes → CutEnacts
enacted_of prefix under x m whole run model is_cut =
    let v = model.assignment in
    let i = is_cut.instance in
    let ones = subst (λ (es : List Event). All (HasOnes x) es) is_cut.cut (under x model.run_of.kinds whole model.run_of.run_of) in
    let emitted = subst (λ (es : List Event). Contains es (Emit i)) (sym is_cut.last) (end_same is_cut.before (Emit i) (Emit i) refl) in
    let among = subst (λ (es : List Event). Contains es (Emit i)) (sym is_cut.cut) (Contains-append_left run is_cut.rest (Emit i) emitted) in
    let front : take (length run) whole ≡ run = ap (take (length run)) is_cut.cut ∙ take-append-le (length run) run is_cut.rest (omega arith) ∙ take_all (length run) run (omega arith) in
    let legal = subst (λ (es : List Event). IsLegalRun x es) front (prefix x whole (length run) model.legal) in
    record {
      assignment = v;
      satisfied = All-append (Satisfies v) (shared_clauses x (safety_variables x)) (sent_clause m) model.satisfied
          (sent_satisfied v m (emitted_sent x v whole model.run_of m i among is_cut.message_is));
      enacting = record { whole = whole; run_of = model.run_of; cut = is_cut; ones = all_prefix (HasOnes x) run is_cut.rest ones };
      legal = legal;
      enactable = record { run = run; legal = legal; instance = i; emitted = emitted; message_is = is_cut.message_is };
    }

-- the run of a model emits the message
pub model_emits : (x : Expanded) (m : ℕ) (v : ℕ → Bool) (run : List Event) → IsRunOfAssignment x (safety_variables x) v run → m < length x.messages → SatisfiesAll v (enact_clauses x m) → HasEmission run m
model_emits x m v run is_run known satisfied = sent_emitted x v run is_run m known (is_sent x v m satisfied)

-- what the search finds about the formula of the message
module _ (x : Expanded) (m : ℕ) (f : Formula) (is : IsEnactFormula x m f) (budget : ℕ) where
  -- a refutation
  pub dead_right : NoModelIsDead → (log : Log) → IsFound f budget (Unsat log) → IsDead x m budget log
  dead_right dead log found =
      let right = found.right in
      record { formula = f; is_formula = is; accepts = right.accepted; new = right.new; within = right.within; dead = dead x m f is found.sound }

  -- the budget's end
  pub undecided_right : (log : Log) → IsFound f budget (Budget log) → IsUndecidedVerdict (IsEnactFormula x m) budget log
  undecided_right log found =
      let right = found.right in
      record { formula = f; is_formula = is; new = right.new; exact = right.spent; derived = right.derived; resolves = right.resolves; none = right.no_empty }

  -- a model
  pub model_right : WrittenIsSatisfied → (assignment : List Bool) → IsFound f budget (Sat assignment) → (variable_count (safety_variables x) ≤ length assignment) × SatisfiesAll (valuation assignment) (enact_clauses x m)
  model_right written assignment found =
      let model : IsModel f assignment = found.right in
      (omega (arith, model.whole, is.vars), (written (valuation assignment) (enact_clauses x m) f.clauses is.clauses).0 model.satisfies)

-- the log of a right answer has numbers in range, if it is short
pub numbers_right : NumbersInRange → VariablesAreFew → ClausesAreAsMany → EnactClausesAreFew → (x : Expanded) (m budget : ℕ) (enact : Enact) → budget ≤ 1000000 → IsRightEnact x m budget enact → HasEnactLogInRange enact
numbers_right numbers few_variables as_many few x m budget (Enacted run) small right = tt
numbers_right numbers few_variables as_many few x m budget (Dead log) small right =
    let f = right.formula in
    numbers f log right.accepts.derived right.accepts.resolves
    (omega (arith, small, right.within, formula_few as_many few x m f right.is_formula))
    (omega (arith, right.is_formula.vars, few_variables Safety x))
numbers_right numbers few_variables as_many few x m budget (Undecided log) small right =
    let f = right.formula in
    numbers f log right.derived right.resolves
    (omega (arith, small, right.exact, formula_few as_many few x m f right.is_formula))
    (omega (arith, right.is_formula.vars, few_variables Safety x))

-- one of the runs, cut so
pub known_enacted : CutEnacts → (x : Expanded) (m : ℕ) (runs : List (List Event)) (run : List Event) → All (IsModelRun x) runs → IsCutOfOne m runs run → IsEnacted x m run
known_enacted enacts x m runs run models found = enacts x m found.whole run (All-contains (IsModelRun x) runs found.whole models found.among) found.is_cut

-- what a search for a cut finds of a run that has an emission
pub some_cut : (m : ℕ) (run : List Event) (cut : Option (List Event)) → HasEmission run m → MatchOption cut (¬ HasEmission run m) (IsCutAfter m run) → IsSome cut
some_cut m run None emitted none = absurd (none emitted)
some_cut m run (Some found) emitted is_cut = refl

-- and that is a cut of it
pub found_cut : (m : ℕ) (run found : List Event) (cut : Option (List Event)) → cut ≡ Some found → MatchOption cut (¬ HasEmission run m) (IsCutAfter m run) → IsCutAfter m run found
found_cut m run found cut is is_cut = subst (λ (o : Option (List Event)). MatchOption o (¬ HasEmission run m) (IsCutAfter m run)) is is_cut
