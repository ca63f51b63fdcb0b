-- Keys and orders are those that the statements give.
use Rattle.agent_scripts.proofs.StatedLemmas.{script_fits}
use Rattle.agent_scripts.proofs.laws.scripts_fit.Goals as goal

pub returns : goal.returns
returns c = λ x script for_it. script_fits x script for_it
