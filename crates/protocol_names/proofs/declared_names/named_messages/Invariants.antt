-- What has been noted of the messages.
use Rattle.std.proofs.Common.{take}
use Rattle.std.specs.List.{flat_map}
use Rattle.protocol_names.specs.Names.{declared_word}
use Rattle.protocol_names.specs.inner.DeclaredNames.{AreDeclared}
use Rattle.protocol_names.proofs.declared_names.named_messages.Given as goal

-- the names so far
abbrev pub invariant-loop-item : goal.invariant-loop-item
invariant-loop-item l = AreDeclared (flat_map declared_word (take l.item-index l.body)) l.declared.names l.declared.first
