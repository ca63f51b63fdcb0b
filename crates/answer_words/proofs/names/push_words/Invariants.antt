-- Which names were found.
use Rattle.std.proofs.Common.{◌≡◌, ◌++◌, map, take}
use Rattle.protocol_names.specs.Names.{texts}
use Rattle.answer_words.proofs.names.push_words.Given as goal

-- those of the words so far
abbrev pub invariant-loop-word : goal.invariant-loop-word
invariant-loop-word l =
    map (λ name. name.now) l.names ≡
    map (λ name. name.now) l.fn.names ++ texts (take l.word-index l.words)
