-- The law on answers, from its lemma.
use Rattle.question_formula.proofs.AnswerLemmas.{yes_exactly_if_met}
use Rattle.question_formula.proofs.laws.yes_exactly_if_met.Goals as goal

pub returns : goal.returns
returns c =
    yes_exactly_if_met c.carriers_are_kinds.ensures c.occurs_exactly_if_some_event.ensures.event c.occurs_exactly_if_some_event.ensures.within c.known_exactly_if_carried.ensures c.bound_exactly_if_sent.ensures c.prefix_is_legal.ensures.run c.denied_is_not_met.ensures
