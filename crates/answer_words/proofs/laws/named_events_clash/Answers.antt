-- The events of a right verdict clash.
use Rattle.answer_words.proofs.NamedLemmas.{clash}
use Rattle.answer_words.proofs.laws.named_events_clash.Goals as goal

pub returns : goal.returns
returns c = clash c.legal_by_positions.ensures
