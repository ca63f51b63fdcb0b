-- The run of a model does what the property excludes, and is cut where it refutes it.
use Rattle.std.proofs.Common.{subst, sym, ap}
use Rattle.std.proofs.lemmas.Result.{IfOk-weaker}
use Rattle.bspl_types.specs.declared.expanded.Expanded.{Expanded}
use Rattle.bspl_types.specs.History.{IsRun}
use Rattle.clause_core.specs.Assignment.{valuation}
use Rattle.clause_core.specs.Clause.{Satisfies, SatisfiesAll}
use Rattle.clause_encoding.specs.declared.variables.Variables.{Variables}
use Rattle.clause_encoding.specs.Families.{shared_clauses}
use Rattle.clause_encoding.specs.Formula.{own_clauses, variables_of}
use Rattle.enactment_model.specs.Property.{Violates}
use Rattle.witness_replay.specs.Refuting.{IsCut, IsCounterexample}
use Rattle.witness_replay.specs.Witness.{IsRunOfAssignment}
use Rattle.witness_replay.proofs.FamilyLemmas.{all_left}
use Rattle.witness_replay.proofs.ModelLemmas.{cut_refutation, model_violates}
use Rattle.witness_replay.proofs.witness.witness_of.Goals as goal

pub order_run-requires-clause-are_variables : goal.order_run-requires-clause-are_variables
order_run-requires-clause-are_variables c =
    record { kinds = ap (λ (vars : Variables). vars.kinds) c.in_ok-vars.ensures.exact; occurrences_first = c.in_ok-vars.ensures.small.occurrences_first }

pub order_run-requires-clause-satisfied : goal.order_run-requires-clause-satisfied
order_run-requires-clause-satisfied c =
    let x = c.args.a.now in
    let v = valuation c.args.s.now in
    subst (λ (vars : Variables). SatisfiesAll v (shared_clauses x vars)) (sym c.in_ok-vars.ensures.exact) (all_left (Satisfies v) (shared_clauses x (variables_of c.args.property x)) (own_clauses c.args.property x) c.requires.satisfied)

pub cut_run-requires-clause-fits : goal.cut_run-requires-clause-fits
cut_run-requires-clause-fits c =
    subst (λ (y : Expanded). IsRun y c.in_ok-whole.whole) (sym c.expanded.ensures.same) c.in_ok-whole.ensures.legal.fits

pub cut_run-requires-clause-violates : goal.cut_run-requires-clause-violates
cut_run-requires-clause-violates c =
    let x = c.args.a.now in
    let v = valuation c.args.s.now in
    let whole = c.in_ok-whole.whole in
    let is_run : IsRunOfAssignment x (variables_of c.args.property x) v whole = subst (λ (vars : Variables). IsRunOfAssignment x vars v whole) c.in_ok-vars.ensures.exact c.in_ok-whole.ensures.run in
    subst (λ (y : Expanded). Violates c.args.property y whole) (sym c.expanded.ensures.same)
    (model_violates c.known_exactly_if_some_event_binds.ensures.known c.known_exactly_if_some_event_binds.ensures.history c.args.property x v whole is_run c.requires.satisfied)

pub returns : goal.returns
returns c =
    let x = c.args.a.now in
    let property = c.args.property in
    let v = valuation c.args.s.now in
    let whole = c.in_ok-whole.whole in
    let is_run : IsRunOfAssignment x (variables_of property x) v whole = subst (λ (vars : Variables). IsRunOfAssignment x vars v whole) c.in_ok-vars.ensures.exact c.in_ok-whole.ensures.run in
    IfOk-weaker c.cut_run.result (IsCut property c.expanded.result.now whole) (IsCounterexample property x v)
    (λ run cut.
    cut_refutation c.known_exactly_if_some_event_binds.ensures.known c.known_exactly_if_some_event_binds.ensures.history c.prefix_is_legal.ensures.run c.violated_does_not_hold.ensures property x v whole run is_run c.in_ok-whole.ensures.legal c.requires.satisfied
    (subst (λ (y : Expanded). IsCut property y whole run) c.expanded.ensures.same cut))
    c.cut_run.ensures
