-- The law, by its lemmas.
use Rattle.protocol_limits.proofs.NumberLemmas.{numbers_are_of_protocols}
use Rattle.protocol_limits.proofs.laws.numbers_are_of_protocols.Goals as goal

pub returns : goal.returns
returns c = numbers_are_of_protocols
