-- A refutation by the log, with its proof if one is asked for.
use Rattle.dimacs.proofs.Written.{read_proved, read_refuted}
use Rattle.dimacs.proofs.decision.refuted.Goals as goal

pub returns-in_ok-proof : goal.returns-in_ok-proof
returns-in_ok-proof c = λ text read refutes.
    (c.if-options.true, read_proved text c.args.formula.now c.args.options.budget c.args.log.now c.in_ok-proof.proof read refutes c.in_ok-proof.ensures.none c.in_ok-proof.ensures.proves)

pub returns-in_ok-check : goal.returns-in_ok-check
returns-in_ok-check c = λ text read refutes.
    (c.if-options.false, read_refuted text c.args.formula.now c.args.options.budget c.args.log.now read refutes c.in_ok-check.ensures)
