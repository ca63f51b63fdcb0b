-- All is read from memory and written to it.
use Rattle.std.proofs.Common.{Err, ap, ◌∙◌}
use Rattle.agent_commands.proofs.ServeAnswers.{all_replied, never_too_long, nothing_counted}
use Rattle.agent_commands.proofs.serve_command.serve_lines.Goals as goal

pub returns-in-Ok : goal.returns-in-Ok
returns-in-Ok c =
    let nothing = c.new-nothing.ensures ∙ c.new.ensures in
    all_replied c.args.store c.in-Ok.field-0 c.args.lines.now c.new-nothing.result c.args.replies.now c.serve_from.new.output c.serve_from.new.input nothing c.requires.empty c.in-Ok.ensures.ok

pub unreachable-requires : goal.unreachable-requires
unreachable-requires c = nothing_counted (c.in-Err-ReadFault.ensures.faults.read.counted (ap Err c.in-Err-ReadFault.field-0-is))

pub unreachable-requires-in-Err-WriteFault : goal.unreachable-requires-in-Err-WriteFault
unreachable-requires-in-Err-WriteFault c = nothing_counted (c.in-Err-WriteFault.ensures.faults.write.counted (ap Err c.in-Err-WriteFault.field-0-is))

pub unreachable-requires-in-Err-TooLong : goal.unreachable-requires-in-Err-TooLong
unreachable-requires-in-Err-TooLong c =
    let nothing = c.new-nothing.ensures ∙ c.new.ensures in
    never_too_long c.args.store c.args.lines.now c.new-nothing.result c.args.replies.now c.serve_from.new.output c.serve_from.new.input nothing c.requires.short (rw c.in-Err-TooLong.field-0-is at c.in-Err-TooLong.ensures.err)
