-- What is kept while a blank is looked for.
use Rattle.std.proofs.Common.{◌≡◌, false, take, All}
use Rattle.dimacs.specs.Dimacs.{parts_words}
use Rattle.dimacs.proofs.words.cut_at_blank.Given as goal

-- no blank is among the bytes that were passed
abbrev pub invariant-loop-index : goal.invariant-loop-index
invariant-loop-index l = All (λ byte. parts_words byte ≡ false) (take l.index l.bytes)
