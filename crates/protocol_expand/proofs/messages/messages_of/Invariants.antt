-- What has been made of the schemas.
use Rattle.std.proofs.Common.{take}
use Rattle.std.specs.List.{AllZip}
use Rattle.protocol_expand.specs.FlatExpansion.{IsMessageFor}
use Rattle.protocol_expand.proofs.messages.messages_of.Given as goal

-- one for each schema so far
abbrev pub invariant-loop-schema : goal.invariant-loop-schema
invariant-loop-schema l = AllZip (IsMessageFor l.roles l.params) (take l.schema-index l.schemas) l.messages
