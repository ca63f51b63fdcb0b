-- What each moment shows.
use Rattle.std.proofs.Common.{rules, arith, take}
use Rattle.questions.specs.inner.Moment.{IsBetween}
use Rattle.questions.proofs.MomentLemmas.{never_before, one_more}
use Rattle.questions.proofs.happening.happened_before.Goals as goal

pub loop-moment-preserved : goal.loop-moment-preserved
loop-moment-preserved c =
    one_more (λ k. ¬ IsBetween c.args.x.now (take k c.args.run.now) c.args.key.now c.args.one c.args.other) c.loop-moment.moment c.loop-moment.invariant (search rules)

pub returns : goal.returns
returns c = (
  λ wrong. absurd (search rules),
  λ before. absurd (never_before c.args.x.now c.args.run.now c.args.key.now c.args.one c.args.other c.loop-moment.moment (omega arith) c.loop-moment.invariant before),
)
