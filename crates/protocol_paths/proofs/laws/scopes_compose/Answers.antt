-- By the last reference of the path.
use Rattle.protocol_paths.proofs.CompositionLemmas.{names_composed}
use Rattle.protocol_paths.proofs.laws.scopes_compose.Goals as goal

pub returns : goal.returns
returns c = names_composed
