-- The circuit of one message more.
use Rattle.question_formula.specs.Conditions.{rests_at}
use Rattle.question_formula.proofs.CircuitLemmas.{number_more}
use Rattle.question_formula.proofs.rest.rests.Goals as goal

pub loop-m-preserved : goal.loop-m-preserved
loop-m-preserved c =
    number_more (rests_at c.args.x.now c.args.excused.now) c.loop-m.circuits c.push.new.self c.in_ok-rests_at.field-0 c.loop-m.m c.loop-m.invariant c.in_ok-push.ensures.ok c.in_ok-rests_at.ensures
