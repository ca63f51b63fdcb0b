-- The assignment satisfies the clauses of order too, and its run is legal.
use Rattle.std.proofs.Common.{IfOk, subst, sym}
use Rattle.std.proofs.lemmas.Result.{IfOk-weaker}
use Rattle.bspl_types.specs.declared.expanded.Expanded.{Expanded}
use Rattle.clause_core.specs.Assignment.{valuation}
use Rattle.clause_core.specs.Clause.{SatisfiesAll}
use Rattle.clause_encoding.specs.Families.{shared_clauses}
use Rattle.enactment_model.specs.Legal.{IsLegalRun}
use Rattle.witness_replay.specs.Witness.{IsRunOfKinds}
use Rattle.witness_replay.proofs.FamilyLemmas.{families}
use Rattle.witness_replay.proofs.LegalLemmas.{run_is_legal}
use Rattle.witness_replay.proofs.replay.order_run.Goals as goal

pub ordered_kinds-requires-clause-satisfied : goal.ordered_kinds-requires-clause-satisfied
ordered_kinds-requires-clause-satisfied c = (families c.args.a.now c.args.vars (valuation c.args.s.now) c.requires.satisfied).order

pub run_of_kinds-requires-clause-satisfied : goal.run_of_kinds-requires-clause-satisfied
run_of_kinds-requires-clause-satisfied c =
    subst (λ (x : Expanded). SatisfiesAll (valuation c.args.s.now) (shared_clauses x c.args.vars)) (sym c.expanded.ensures.same) c.requires.satisfied

pub returns-clause-legal : goal.returns-clause-legal
returns-clause-legal c =
    let x = c.args.a.now in
    let v = valuation c.args.s.now in
    let run_of = subst (λ (y : Expanded). IfOk c.run_of_kinds.result (IsRunOfKinds y c.as_slice.result.now)) c.expanded.ensures.same c.run_of_kinds.ensures in
    let run_of_kinds = subst (λ ks. IfOk c.run_of_kinds.result (IsRunOfKinds x ks)) c.as_slice.ensures run_of in
    IfOk-weaker c.run_of_kinds.result (IsRunOfKinds x c.in_ok-kinds.kinds) (IsLegalRun x)
    (λ run is_run.
    run_is_legal c.legal_by_positions.ensures c.known_exactly_if_some_event_binds.ensures.known c.known_exactly_if_some_event_binds.ensures.history x c.args.vars v run c.requires.are_variables c.requires.satisfied
    (record { kinds = c.in_ok-kinds.kinds; ordered = c.in_ok-kinds.ensures; run_of = is_run }))
    run_of_kinds
