-- The laws on answers, from their lemmas.
use Rattle.role_knowledge.proofs.OneAnswer.{one_first_block, one_first_known}
use Rattle.bspl_types.specs.Expansion.{message_of}
use Rattle.role_knowledge.proofs.laws.answers_once.Goals as goal

pub returns : goal.returns
returns c = record { values = one_first_known; blocks = λ x history key m. one_first_block x history key (message_of x m).carried }
