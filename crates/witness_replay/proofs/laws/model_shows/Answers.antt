-- The law on what a model shows, from its lemma.
use Rattle.witness_replay.proofs.ShownLemmas.{model_shows}
use Rattle.witness_replay.proofs.laws.model_shows.Goals as goal

pub returns : goal.returns
returns c = model_shows c.occurs_exactly_if_some_event.ensures.event c.occurs_exactly_if_some_event.ensures.within
