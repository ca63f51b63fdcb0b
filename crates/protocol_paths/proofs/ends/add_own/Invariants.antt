-- What has been put at the end.
use Rattle.std.proofs.Common.{◌≡◌, ◌++◌, map, take}
use Rattle.protocol_paths.specs.Flat.{entry}
use Rattle.protocol_paths.proofs.ends.add_own.Given as goal

-- the private parameters so far
abbrev pub invariant-loop-word : goal.invariant-loop-word
invariant-loop-word l = map entry l.private ≡ map entry l.fn.private ++ map entry (take l.word-index l.own)
