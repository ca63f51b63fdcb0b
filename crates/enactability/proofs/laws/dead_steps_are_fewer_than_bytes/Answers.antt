-- The law, from its lemma.
use Rattle.enactability.proofs.TextLemmas.{steps_in_text}
use Rattle.enactability.proofs.laws.dead_steps_are_fewer_than_bytes.Goals as goal

pub returns : goal.returns
returns c = steps_in_text c.steps_have_lines.ensures
