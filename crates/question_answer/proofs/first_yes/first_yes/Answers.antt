-- The answer is not yes at one moment more.
use Rattle.std.proofs.Common.{rules, take}
use Rattle.questions.specs.Answer.{IsAnsweredYes}
use Rattle.question_answer.proofs.MomentLemmas.{one_more}
use Rattle.question_answer.proofs.first_yes.first_yes.Goals as goal

pub loop-moment-preserved : goal.loop-moment-preserved
loop-moment-preserved c =
    one_more (λ k. ¬ IsAnsweredYes c.args.x.now (take k c.args.run.now) c.args.key.now c.args.q.now) c.loop-moment.moment c.loop-moment.invariant (search rules)
