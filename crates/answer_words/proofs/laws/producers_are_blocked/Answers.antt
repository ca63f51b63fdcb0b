-- What could produce the parameter is blocked.
use Rattle.answer_words.proofs.NamedLemmas.{blocked}
use Rattle.answer_words.proofs.laws.producers_are_blocked.Goals as goal

pub returns : goal.returns
returns c = blocked c.known_exactly_if_some_event_binds.ensures.known c.known_exactly_if_some_event_binds.ensures.history
