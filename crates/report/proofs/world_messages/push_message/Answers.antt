-- The line is written field by field.
use Rattle.std.specs.Fmt.{decimal}
use Rattle.bspl_types.specs.Expansion.{message_of}
use Rattle.report.proofs.MessageLemmas.{message_written}
use Rattle.report.proofs.world_messages.push_message.Goals as goal

pub returns : goal.returns
returns c =
    let line = message_written c.args.text.now (message_of c.args.x.now c.args.message).name (decimal c.args.count.sent) (decimal c.args.count.received) in
    rw (c.in_ok-push_count-2.ensures, c.in_ok-push_field-3.ensures, c.in_ok-push_count.ensures, c.in_ok-push_field-2.ensures, c.in_ok-push_field.ensures, c.in_ok-append.ensures.ok, c.message_name.ensures, line) at c.push.ensures.ok
