-- The values of an instance tell its key.
use Rattle.role_journal.proofs.InstanceLemmas.{fitting_is_one}
use Rattle.role_journal.proofs.laws.fitting_instances_are_one.Goals as goal

pub returns : goal.returns
returns c = λ x i j admitted fits other message values. fitting_is_one x i j admitted fits other message values
