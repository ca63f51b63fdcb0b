-- The question so far is about each protocol that has what is asked for.
use Rattle.std.proofs.Common.{All}
use Rattle.bspl_types.specs.declared.expanded.Expanded.{Expanded}
use Rattle.questions.specs.Subject.{IsAbout, IsAboutHappening}
use Rattle.question_answer.proofs.common_question.all_happened.Given as goal

abbrev pub invariant-loop-happening : goal.invariant-loop-happening
invariant-loop-happening l =
    (x : Expanded) → IsAboutHappening x l.fn.last → All (IsAboutHappening x) l.others → IsAbout x l.all
