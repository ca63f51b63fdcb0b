-- What has been made of the messages.
use Rattle.std.proofs.Common.{take}
use Rattle.std.specs.List.{AllZip}
use Rattle.protocol_expand.specs.Canonical.{IsItemOf}
use Rattle.protocol_expand.proofs.schemas.items_of.Given as goal

-- one item for each so far
abbrev pub invariant-loop-m : goal.invariant-loop-m
invariant-loop-m l = AllZip (IsItemOf l.roles l.params) (take l.m-index l.messages) l.items
