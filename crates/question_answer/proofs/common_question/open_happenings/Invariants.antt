-- What was found is of the protocol.
use Rattle.std.proofs.Common.{All}
use Rattle.questions.specs.Subject.{IsAboutHappening}
use Rattle.question_answer.proofs.common_question.open_happenings.Given as goal

abbrev pub invariant-loop-question : goal.invariant-loop-question
invariant-loop-question l = All (IsAboutHappening l.a) l.open
