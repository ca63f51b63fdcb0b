-- The spelling of a question is read as it.
use Rattle.question_text.proofs.SpellingLemmas.{reads_back}
use Rattle.question_text.proofs.laws.spelling_reads_back.Goals as goal

pub returns : goal.returns
returns c = reads_back c.spaced_tokens.ensures
