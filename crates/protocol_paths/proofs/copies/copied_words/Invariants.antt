-- What has been copied.
use Rattle.std.proofs.Common.{◌≡◌, take}
use Rattle.protocol_paths.proofs.copies.copied_words.Given as goal

-- the words so far
abbrev pub invariant-loop-word : goal.invariant-loop-word
invariant-loop-word l = l.copies ≡ take l.word-index l.words
