-- What has been written of the words.
use Rattle.std.proofs.Common.{◌≡◌, ◌++◌, map, take}
use Rattle.formula_text.specs.inner.Lines.{spaced}
use Rattle.formula_text.proofs.meaning.push_spaced.Given as goal

-- the words before this one
abbrev pub invariant-loop-word : goal.invariant-loop-word
invariant-loop-word l = l.text ≡ l.initial.text ++ spaced (map (λ word. word.now) (take l.word-index l.words))
