-- What has been added.
use Rattle.std.proofs.Common.{◌≡◌, ◌++◌, take}
use Rattle.protocol_names.specs.Names.{texts}
use Rattle.protocol_paths.proofs.name_tables.add_words.Given as goal

-- the texts of the words so far
abbrev pub invariant-loop-word : goal.invariant-loop-word
invariant-loop-word l = l.names ≡ l.fn.names ++ texts (take l.word-index l.words)
