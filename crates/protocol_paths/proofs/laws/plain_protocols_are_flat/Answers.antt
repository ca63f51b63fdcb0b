-- Each message is its own image.
use Rattle.protocol_paths.proofs.PlainLemmas.{own_flat}
use Rattle.protocol_paths.proofs.laws.plain_protocols_are_flat.Goals as goal

pub returns : goal.returns
returns c = own_flat
