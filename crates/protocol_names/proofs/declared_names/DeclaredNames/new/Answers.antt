-- Without names there is no duplicate.
use Rattle.protocol_names.proofs.Duplicates.{named_none}
use Rattle.protocol_names.proofs.declared_names.DeclaredNames.new.Goals as goal

pub returns : goal.returns
returns c = rw c.new.ensures named_none
