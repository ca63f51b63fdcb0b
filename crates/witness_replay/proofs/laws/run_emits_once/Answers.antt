-- The law on emissions, from its lemma.
use Rattle.witness_replay.proofs.OnceLemmas.{emits_once}
use Rattle.witness_replay.proofs.laws.run_emits_once.Goals as goal

pub returns : goal.returns
returns c = emits_once
