-- The searches are of the same protocol.
use Rattle.std.proofs.Common.{◌≡◌}
use Rattle.question_answer.proofs.question_search.QuestionSearch.prepare.Given as goal

abbrev pub invariant-loop : goal.invariant-loop
invariant-loop l = l.self ≡ l.fn.self
