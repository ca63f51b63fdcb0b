-- What has been made so far.
use Rattle.std.proofs.Common.{take}
use Rattle.std.specs.List.{AllZip}
use Rattle.protocol_expand.specs.Canonical.{IsWordOf}
use Rattle.protocol_expand.proofs.declaration.role_words.Given as goal

-- one for each so far
abbrev pub invariant-loop-name : goal.invariant-loop-name
invariant-loop-name l = AllZip IsWordOf (take l.name-index l.names) l.words
