-- The name of a message that stands before it.
use Rattle.bspl_parser.specs.declared.document.Schema.{Schema}
use Rattle.protocol_expand.proofs.Noted.{item_repeated}
use Rattle.protocol_expand.proofs.repeats.repeated_message.Goals as goal

pub returns-then-branch : goal.returns-then-branch
returns-then-branch c =
    item_repeated (λ (s : Schema). s.name) c.args.messages.now c.loop-schema.schema-index c.schema-item.result c.loop-schema.names c.loop-schema-test.true c.schema-item.is c.loop-schema.invariant
    (rw c.if-branch.true at (c.in_ok-note_name.ensures _ c.loop-schema.invariant))
