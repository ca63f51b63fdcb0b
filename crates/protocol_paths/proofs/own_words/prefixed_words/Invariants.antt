-- What has been made.
use Rattle.std.proofs.Common.{◌≡◌, ◌++◌, map, take}
use Rattle.protocol_paths.specs.Flat.{entry}
use Rattle.protocol_paths.proofs.own_words.prefixed_words.Given as goal

-- the words so far
abbrev pub invariant-loop-word : goal.invariant-loop-word
invariant-loop-word l = map entry l.list ≡ map (λ w. (l.prefix.text ++ w.text, w.offset)) (take l.word-index l.words)
