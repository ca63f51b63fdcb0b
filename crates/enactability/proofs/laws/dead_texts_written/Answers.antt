-- The law, from its lemma.
use Rattle.enactability.proofs.TextLemmas.{written_text}
use Rattle.enactability.proofs.laws.dead_texts_written.Goals as goal

pub returns : goal.returns
returns c = written_text
