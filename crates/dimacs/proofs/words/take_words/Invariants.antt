-- What is kept while the words of a line are taken.
use Rattle.std.proofs.Common.{◌≡◌, ◌++◌, List, ℕ, length, All}
use Rattle.std.specs.Option.{option_copied}
use Rattle.dimacs.specs.Dimacs.{words_of}
use Rattle.dimacs.specs.RefusedLine.{IsClauseWord}
use Rattle.dimacs.specs.inner.Reading.{TakesWords, words_left}
use Rattle.dimacs.proofs.words.take_words.Given as goal

-- some words were taken, the others of the line are left, and none was bad
abbrev pub invariant-loop-word : goal.invariant-loop-word
invariant-loop-word l = record {
  taken : List (List ℕ);
  parts : taken ++ words_left (option_copied l.left) ≡ words_of l.fn.line;
  takes : TakesWords l.vars l.fn.reading.clauses l.fn.reading.pending.items taken l.reading.clauses l.reading.pending.items;
  rest : All (IsClauseWord l.vars) (words_of l.fn.line) → All (IsClauseWord l.vars) (words_left (option_copied l.left));
}

-- the words that are left
abbrev pub decreases-loop-word : goal.decreases-loop-word
decreases-loop-word l = length (words_left (option_copied l.left))
