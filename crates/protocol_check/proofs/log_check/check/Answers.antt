-- What the check of the formula says is said of the protocol.
use Rattle.std.proofs.Common.{arith}
use Rattle.clause_encoding.specs.Formula.{clauses_of}
use Rattle.order_axioms.specs.Formula.{whole}
use Rattle.protocol_check.proofs.Checks.{accepted_if_ok, accepts_each, fails_exactly, holds_if_accepted}
use Rattle.protocol_check.proofs.log_check.check.Goals as goal

pub check_ordered_log-requires : goal.check_ordered_log-requires
check_ordered_log-requires c =
    omega (arith, c.requires, c.clauses_are_as_many.ensures (clauses_of c.args.property c.args.a.now) (whole c.in_ok-formula.formula).clauses c.in_ok-formula.ensures.exact.is_whole.clauses)

pub returns-clause-holds : goal.returns-clause-holds
returns-clause-holds c =
    holds_if_accepted c.unsatisfiable_holds.ensures c.args.property c.args.a.now (whole c.in_ok-formula.formula) c.check_ordered_log.result c.is_admitted.ensures c.in_ok-formula.ensures.exact.is_whole c.check_ordered_log.ensures.sound

pub returns-clause-ok : goal.returns-clause-ok
returns-clause-ok c =
    accepted_if_ok c.args.property c.args.a.now (whole c.in_ok-formula.formula) c.args.log.now c.check_ordered_log.result c.in_ok-formula.ensures.exact.is_whole c.check_ordered_log.ensures.ok

pub returns-clause-accepts : goal.returns-clause-accepts
returns-clause-accepts c = λ accepts.
    c.check_ordered_log.ensures.accepts (accepts_each c.clauses_decide.ensures.accepted c.clauses_are_determined.ensures c.args.property c.args.a.now (whole c.in_ok-formula.formula) c.args.log.now c.in_ok-formula.ensures.exact.is_whole accepts)

pub returns-clause-rejects : goal.returns-clause-rejects
returns-clause-rejects c = λ not_memory e.
    fails_exactly c.clauses_decide.ensures.failure c.clauses_are_determined.ensures c.args.property c.args.a.now (whole c.in_ok-formula.formula) c.args.log.now c.check_ordered_log.result e c.in_ok-formula.ensures.exact.is_whole (c.check_ordered_log.ensures.rejects not_memory e)
