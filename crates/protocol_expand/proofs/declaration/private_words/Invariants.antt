-- What has been made so far.
use Rattle.std.proofs.Common.{take}
use Rattle.std.specs.List.{AllZip}
use Rattle.protocol_expand.specs.Canonical.{IsPrivateOf}
use Rattle.protocol_expand.proofs.declaration.private_words.Given as goal

-- one for each so far
abbrev pub invariant-loop-p : goal.invariant-loop-p
invariant-loop-p l = AllZip IsPrivateOf (take l.p-index l.params) l.words
