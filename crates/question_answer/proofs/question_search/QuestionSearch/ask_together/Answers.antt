-- What is open is of the protocol, so the question whether all of it happened is about it.
use Rattle.std.proofs.Common.{All, subst, sym}
use Rattle.bspl_types.specs.declared.expanded.Expanded.{Expanded}
use Rattle.questions.specs.Subject.{IsAboutHappening}
use Rattle.question_answer.proofs.KeptLemmas.{last_and_others}
use Rattle.question_answer.proofs.question_search.QuestionSearch.ask_together.Goals as goal

pub answer-requires-clause-about : goal.answer-requires-clause-about
answer-requires-clause-about c =
    let x = c.args.self.now in
    let known = subst (λ (y : Expanded). All (IsAboutHappening y) c.in_ok-open.open) c.self.view_is c.in_ok-open.ensures in
    let (others, last) = last_and_others x c.in_ok-open.open c.pop.new.self c.in-Some.last c.in-Some.ensures.last known in
    c.in_ok-all.ensures x last (subst (All (IsAboutHappening x)) (sym c.as_slice-in-Some.ensures) others)
