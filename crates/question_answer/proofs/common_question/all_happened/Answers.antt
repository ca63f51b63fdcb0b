-- The question with one thing more is about what it and the question so far are about.
use Rattle.std.proofs.Common.{sym, subst}
use Rattle.questions.specs.Subject.{IsAbout}
use Rattle.question_answer.proofs.common_question.all_happened.Goals as goal

pub loop-happening-preserved : goal.loop-happening-preserved
loop-happening-preserved c = λ x last all. (
  subst (IsAbout x) (sym c.in_ok-new.ensures.ok) (all c.loop-happening.happening-index _ c.loop-happening-test.true),
  subst (IsAbout x) (sym c.in_ok-new-2.ensures.ok) (c.loop-happening.invariant x last all),
)
