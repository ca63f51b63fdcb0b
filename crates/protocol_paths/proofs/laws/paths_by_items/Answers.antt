-- By the definitions.
use Rattle.protocol_paths.proofs.EntryLemmas.{same_end}
use Rattle.protocol_paths.proofs.ReferenceLemmas.{message_alone, one_step}
use Rattle.protocol_paths.proofs.laws.paths_by_items.Goals as goal

pub returns : goal.returns
returns c = record { ends = same_end; message = message_alone; reference = one_step }
