-- Each message is at rest.
use Rattle.std.proofs.Common.{rules, arith}
use Rattle.questions.specs.inner.Moment.{IsAtRest}
use Rattle.questions.proofs.MomentLemmas.{one_more}
use Rattle.questions.proofs.RestLemmas.{comes_to_rest}
use Rattle.questions.proofs.answer.comes_to_rest.Goals as goal

pub loop-m-preserved : goal.loop-m-preserved
loop-m-preserved c = one_more (IsAtRest c.args.x.now c.args.run.now c.args.key.now c.args.excused.now) c.loop-m.m c.loop-m.invariant (search rules)

pub returns : goal.returns
returns c = (λ _. comes_to_rest c.args.x.now c.args.run.now c.args.key.now c.args.excused.now c.loop-m.m c.requires (omega arith) c.loop-m.invariant, λ _. search rules)
