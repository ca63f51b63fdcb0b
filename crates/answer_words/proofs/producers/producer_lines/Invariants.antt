-- Which messages were listed.
use Rattle.std.proofs.Common.{drop}
use Rattle.answer_words.proofs.ProducerLemmas.{HasListed}
use Rattle.answer_words.proofs.producers.producer_lines.Given as goal

-- the text so far, before the lines of those that are left, lists all
abbrev pub invariant-loop-message : goal.invariant-loop-message
invariant-loop-message l = HasListed l.x l.run l.param (drop l.message l.x.messages) l.text
