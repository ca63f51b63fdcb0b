-- Words come after what the tool says.
use Rattle.more_commands.proofs.ToolLemmas.{words_added}
use Rattle.more_commands.proofs.laws.answers_add_words.Goals as goal

pub returns : goal.returns
returns c = λ args rest bytes out status about has output. words_added args rest bytes about has out status output
