-- Words are read in one way, and what is parsed is one command line.
use Rattle.command_line.proofs.LineLemmas.{same_line_of_words}
use Rattle.command_line.proofs.laws.one_line.Goals as goal

pub returns : goal.returns
returns c = λ args one other is_one is_other. same_line_of_words args one other is_one is_other
