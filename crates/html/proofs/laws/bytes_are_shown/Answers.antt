-- A byte is written as an entity, or as itself.
use Rattle.html.proofs.MarkupLemmas.{byte_shown}
use Rattle.html.proofs.laws.bytes_are_shown.Goals as goal

pub returns : goal.returns
returns c = byte_shown
