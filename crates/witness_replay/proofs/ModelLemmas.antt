-- A model of the formula of a property gives a run that does what the property excludes, and where
-- that run is cut it refutes the property.
use Rattle.std.proofs.Common.{◌≡◌, ℕ, Bool, List, length, take, sym, ◌∙◌, subst, arith}
use Rattle.std.specs.List.{All}
use Rattle.std.proofs.lemmas.List.{length-take-le, take_all}
use Rattle.std.proofs.lemmas.List.Elements.{All-take}
use Rattle.bspl_types.specs.declared.event.Event.{Event}
use Rattle.bspl_types.specs.declared.expanded.Expanded.{Expanded}
use Rattle.bspl_types.specs.declared.property.Property.{Property}
use Rattle.bspl_types.specs.declared.property.Property.TheVariants.{Liveness, Safety}
use Rattle.bspl_types.specs.History.{instance_of}
use Rattle.clause_core.specs.Clause.{Satisfies, SatisfiesAll}
use Rattle.clause_encoding.specs.Families.{shared_clauses}
use Rattle.clause_encoding.specs.Formula.{clauses_of, own_clauses, variables_of}
use Rattle.enactment_model.specs.Laws.{HistoryIsRun, KnownExactlyIfSomeEventBinds, LegalByPositions, PrefixIsLegalRun}
use Rattle.enactment_model.specs.Legal.{IsLegalRun}
use Rattle.enactment_model.specs.Property.{HasConflict, ViolatedDoesNotHold, Violates}
use Rattle.enactment_model.specs.ShortestConflict.{ShortestConflict}
use Rattle.first_occurrences.specs.Report.{AreVariablesOf}
use Rattle.witness_replay.specs.Laws.{HasRefutation, ModelDoesNotHold, ModelRefutes, RunIsUnderOnes, SharedModelHasRun}
use Rattle.witness_replay.specs.Refuting.{IsCut, IsCounterexample, Refutes, RestsUnbound}
use Rattle.witness_replay.specs.Witness.{IsRunOfAssignment, IsRunOfKinds, key_of_ones}
use Rattle.witness_replay.proofs.ConflictLemmas.{are_safety_variables, has_conflict}
use Rattle.witness_replay.proofs.ExistenceLemmas.{run_exists}
use Rattle.witness_replay.proofs.FamilyLemmas.{all_left}
use Rattle.witness_replay.proofs.LegalLemmas.{run_is_legal}
use Rattle.witness_replay.proofs.ListedLemmas.{each_member}
use Rattle.witness_replay.proofs.RestLemmas.{are_liveness_variables, model_rests_unbound}
use Rattle.witness_replay.proofs.RunLemmas.{under_ones}

-- the variables of the formula are a formula's
are_variables : (property : Property) (x : Expanded) → AreVariablesOf x (variables_of property x)
are_variables Safety x = are_safety_variables x
are_variables Liveness x = are_liveness_variables x

-- what refutes a property does what the property excludes
refuted : (property : Property) (x : Expanded) (run : List Event) → Refutes property x run → Violates property x run
refuted Safety x run ends = record { key = ends.key; param = ends.param; first = ends.first; second = ends.second; conflict = ends.conflict }
refuted Liveness x run rests = record { key = key_of_ones x; quiet = rests.quiet; param = rests.param; public = rests.public; unbound = rests.unbound }

-- the run of a model does so
pub model_violates : KnownExactlyIfSomeEventBinds → HistoryIsRun → (property : Property) (x : Expanded) (v : ℕ → Bool) (run : List Event) → IsRunOfAssignment x (variables_of property x) v run → SatisfiesAll v (clauses_of property x) → Violates property x run
model_violates known histories Safety x v run is_run satisfied = has_conflict x v run is_run satisfied
model_violates known histories Liveness x v run is_run satisfied =
    refuted Liveness x run (model_rests_unbound known histories x v run is_run satisfied)

-- the run that is cut has the first events of the whole run
first_of : (property : Property) (x : Expanded) (whole run : List Event) → IsCut property x whole run → (n : ℕ) × (run ≡ take n whole)
first_of Safety x whole run cut = (cut.found.second, cut.cut)
first_of Liveness x whole run same = (length whole, same ∙ sym (take_all (length whole) whole (omega arith)))

-- so it is legal
cut_legal : PrefixIsLegalRun → (property : Property) (x : Expanded) (whole run : List Event) → IsLegalRun x whole → IsCut property x whole run → IsLegalRun x run
cut_legal prefix property x whole run is_legal cut =
    let (n, is) = first_of property x whole run cut in
    subst (IsLegalRun x) (sym is) (prefix x whole n is_legal)

-- the event is under the key of ones
abbrev HasOnes : Expanded → Event → Type 0
HasOnes x e = (instance_of e).key ≡ key_of_ones x

-- each event of a run of kinds is under it
pub is_under_ones : RunIsUnderOnes
is_under_ones x kinds run is_run = each_member (HasOnes x) run (λ e among. (under_ones x kinds run is_run e among).key)

-- and its events are under the key of ones
cut_ones : (property : Property) (x : Expanded) (kinds : List ℕ) (whole run : List Event) → IsRunOfKinds x kinds whole → IsCut property x whole run → All (HasOnes x) run
cut_ones property x kinds whole run is_run cut =
    let (n, is) = first_of property x whole run cut in
    subst (λ (events : List Event). All (HasOnes x) events) (sym is)
    (All-take (HasOnes x) n whole (is_under_ones x kinds whole is_run))

-- and it refutes the property
cut_refutes : KnownExactlyIfSomeEventBinds → HistoryIsRun → (property : Property) (x : Expanded) (v : ℕ → Bool) (whole run : List Event) → IsRunOfAssignment x (variables_of property x) v whole → SatisfiesAll v (clauses_of property x) → IsCut property x whole run → Refutes property x run
cut_refutes known histories Safety x v whole run is_run satisfied cut =
    let least = cut.least in
    record { key = least.key; param = cut.found.param; first = least.first; second = least.second; conflict = least.conflict; last = sym cut.last ∙ least.second_is }
cut_refutes known histories Liveness x v whole run is_run satisfied same =
    subst (RestsUnbound x) (sym same) (model_rests_unbound known histories x v whole is_run satisfied)

-- all of this together
pub cut_refutation : KnownExactlyIfSomeEventBinds → HistoryIsRun → PrefixIsLegalRun → ViolatedDoesNotHold → (property : Property) (x : Expanded) (v : ℕ → Bool) (whole run : List Event) → IsRunOfAssignment x (variables_of property x) v whole → IsLegalRun x whole → SatisfiesAll v (clauses_of property x) → IsCut property x whole run → IsCounterexample property x v run
cut_refutation known histories prefix violated property x v whole run is_run is_legal satisfied cut =
    record {
      refuting = record { whole = whole; run_of = is_run; cut = cut; ones = cut_ones property x is_run.kinds whole run is_run.run_of cut };
      legal = cut_legal prefix property x whole run is_legal cut;
      refutes = cut_refutes known histories property x v whole run is_run satisfied cut;
      fails = violated property x whole is_legal (model_violates known histories property x v whole is_run satisfied);
    }

-- a legal run with a conflict has a prefix that ends in one
refutation_from : ShortestConflict → (x : Expanded) (run : List Event) → IsLegalRun x run → HasConflict x run → HasRefutation Safety x
refutation_from shortest x run is_legal has =
    let prefix = shortest x run has.key has.param has.first has.second is_legal has.conflict in
    record {
      run = take prefix.events run;
      legal = prefix.legal;
      refutes = record {
        key = prefix.key;
        param = prefix.param;
        first = prefix.first;
        second = prefix.second;
        conflict = prefix.conflict;
        last = length-take-le prefix.events run prefix.within ∙ sym prefix.last;
      };
    }

-- and a run that is quiet is one
resting_from : (x : Expanded) (run : List Event) → IsLegalRun x run → RestsUnbound x run → HasRefutation Liveness x
resting_from x run is_legal rests = record { run = run; legal = is_legal; refutes = rests }

-- an assignment that satisfies the shared clauses has a legal run
pub has_run : LegalByPositions → KnownExactlyIfSomeEventBinds → HistoryIsRun → SharedModelHasRun
has_run by_positions known histories x vars v are shared =
    let (run, is_run) = run_exists x known histories vars v are shared in
    record { run = run; run_of = is_run; legal = run_is_legal by_positions known histories x vars v run are shared is_run }

-- an assignment that satisfies the clauses of a property gives such a run
pub model_refutes_each : LegalByPositions → KnownExactlyIfSomeEventBinds → HistoryIsRun → ShortestConflict → ModelRefutes
model_refutes_each by_positions known histories shortest property x v admitted satisfied =
    let vars = variables_of property x in
    let are = are_variables property x in
    let shared = all_left (Satisfies v) (shared_clauses x vars) (own_clauses property x) satisfied in
    let found = has_run by_positions known histories x vars v are shared in
    by_property property found.run found.run_of found.legal satisfied
  where
    by_property : (p : Property) (run : List Event) → IsRunOfAssignment x (variables_of p x) v run → IsLegalRun x run → SatisfiesAll v (clauses_of p x) → HasRefutation p x
    by_property Safety run is_run is_legal all = refutation_from shortest x run is_legal (has_conflict x v run is_run all)
    by_property Liveness run is_run is_legal all = resting_from x run is_legal (model_rests_unbound known histories x v run is_run all)

-- so the protocol does not have the property
pub refuted_fails : ViolatedDoesNotHold → ModelRefutes → ModelDoesNotHold
refuted_fails violated refutes property x v admitted satisfied =
    let found = refutes property x v admitted satisfied in
    violated property x found.run found.legal (refuted property x found.run found.refutes)
