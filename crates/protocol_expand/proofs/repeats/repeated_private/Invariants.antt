-- What has been noted of the private parameters.
use Rattle.std.proofs.Common.{List, ◌++◌, take}
use Rattle.bspl_parser.specs.declared.word.Word.{Word}
use Rattle.protocol_expand.specs.inner.Flat.{AreNoted}
use Rattle.protocol_expand.proofs.repeats.repeated_private.Given as goal

-- the names that were noted, and those so far
abbrev pub invariant-loop-word : goal.invariant-loop-word
invariant-loop-word l = (words : List Word) → AreNoted words l.fn.names → AreNoted (words ++ take l.word-index l.private) l.names
