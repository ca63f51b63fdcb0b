-- The words are those of the rule and its answer.
use Rattle.page_sections.proofs.rules.push_sentence.Goals as goal

pub returns : goal.returns
returns c = rw (c.rule_word.ensures, c.sense_word.ensures, c.as_slice.ensures, c.in_ok-spelling.ensures) at c.fill.ensures
