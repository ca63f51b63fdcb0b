-- Which signs were listed.
use Rattle.std.proofs.Common.{length}
use Rattle.text_lines.specs.Fields.{fields_of}
use Rattle.answer_words.proofs.ChoiceLemmas.{HasListed}
use Rattle.answer_words.proofs.choices.push_signs.Given as goal

-- the text so far, before the list of those signs that are left, lists all
abbrev pub invariant-signs : goal.invariant-signs
invariant-signs l = HasListed l.before (fields_of l.rest) l.fn.text l.text

-- fewer signs are left at each turn
abbrev pub decreases-signs : goal.decreases-signs
decreases-signs l = length (fields_of l.rest)
