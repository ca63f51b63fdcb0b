-- Keys that tie have the same values.
use Rattle.key_table.proofs.TieLemmas.{tied_is_one}
use Rattle.key_table.proofs.laws.tied_keys_are_one.Goals as goal

pub returns : goal.returns
returns c = tied_is_one
