-- By the lists of steps.
use Rattle.protocol_paths.proofs.DepthLemmas.{same_messages, same_paths, same_words}
use Rattle.protocol_paths.proofs.laws.longer_bounds_add_nothing.Goals as goal

pub returns : goal.returns
returns c = record { paths = same_paths; messages = same_messages; privates = same_words }
