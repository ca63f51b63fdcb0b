-- What is written is a prefix of an output.
use Rattle.bspl_tool.proofs.Headline.{true_law}
use Rattle.bspl_tool.proofs.laws.calls_are_true.Goals as goal

pub returns : goal.returns
returns c = true_law
