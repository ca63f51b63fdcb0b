-- What the check of the formula says is said of the message.
use Rattle.std.proofs.Common.{arith}
use Rattle.order_axioms.specs.Formula.{whole}
use Rattle.enactability.specs.EnactFormula.{enact_clauses}
use Rattle.enactability.proofs.CheckLemmas.{accepted_if_ok, dead_if_ok, fails_exactly}
use Rattle.enactability.proofs.check.check_dead.Goals as goal

pub returns-clause-ok : goal.returns-clause-ok
returns-clause-ok c = accepted_if_ok c.args.a.now c.args.message (whole c.in_ok-formula.formula) c.args.log.now c.check_ordered_log.result c.in_ok-formula.ensures c.check_ordered_log.ensures.ok

pub returns-clause-rejects : goal.returns-clause-rejects
returns-clause-rejects c = λ not_memory e.
    fails_exactly c.clauses_are_determined.ensures c.args.a.now c.args.message (whole c.in_ok-formula.formula) c.in_ok-formula.ensures c.args.log.now c.clauses_decide.ensures.failure c.check_ordered_log.result e (c.check_ordered_log.ensures.rejects not_memory e)

pub check_ordered_log-requires : goal.check_ordered_log-requires
check_ordered_log-requires c =
    omega (arith, c.requires.few, c.clauses_are_as_many.ensures (enact_clauses c.args.a.now c.args.message) (whole c.in_ok-formula.formula).clauses c.in_ok-formula.ensures.clauses)

pub returns-clause-dead : goal.returns-clause-dead
returns-clause-dead c =
    dead_if_ok c.no_model_is_dead.ensures c.args.a.now c.args.message (whole c.in_ok-formula.formula) c.check_ordered_log.result c.in_ok-formula.ensures c.check_ordered_log.ensures.sound
