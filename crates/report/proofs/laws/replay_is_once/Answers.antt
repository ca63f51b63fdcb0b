-- The law, from its lemma.
use Rattle.report.proofs.OneReplay.{one_text}
use Rattle.report.proofs.laws.replay_is_once.Goals as goal

pub returns : goal.returns
returns c = one_text c.answers_once.ensures.values
