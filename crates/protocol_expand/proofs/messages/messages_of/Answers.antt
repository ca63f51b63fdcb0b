-- One message more.
use Rattle.std.proofs.Common.{sym, subst}
use Rattle.bspl_parser.specs.declared.document.Schema.{Schema}
use Rattle.protocol_expand.specs.FlatExpansion.{IsMessageFor}
use Rattle.protocol_expand.specs.inner.KnownNames.{IsKnownMessage}
use Rattle.list_base.proofs.Zipped.{paired_more}
use Rattle.protocol_expand.proofs.messages.messages_of.Goals as goal

pub loop-schema-preserved : goal.loop-schema-preserved
loop-schema-preserved c =
    paired_more (IsMessageFor c.args.roles.now c.args.params.now) c.args.schemas.now c.loop-schema.messages c.push.new.self c.loop-schema.schema-index c.schema-item.result _
    c.loop-schema-test.true c.schema-item.is c.loop-schema.invariant c.in_ok-message_for.ensures c.in_ok-push.ensures.ok

pub message_for-requires-clause-known : goal.message_for-requires-clause-known
message_for-requires-clause-known c =
    subst (λ (s : Schema). IsKnownMessage c.args.roles.now c.args.params.now s) (sym c.schema-item.is)
    (c.requires.known c.loop-schema.schema-index c.schema-item.result c.loop-schema-test.true)
