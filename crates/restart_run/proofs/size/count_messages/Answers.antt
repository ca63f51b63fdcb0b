-- A role has as many numbers of messages as messages, and few.
use Rattle.std.proofs.Common.{List, length, sym, ap, ◌∙◌, arith}
use Rattle.std.specs.Prelude.{◌==◌, ◌||◌}
use Rattle.std.specs.List.{filter}
use Rattle.bspl_types.specs.declared.protocol.Message.{Message}
use Rattle.restart_run.proofs.SizeLemmas.{messages_count, messages_few}
use Rattle.restart_run.proofs.size.count_messages.Goals as goal

pub returns-clause-count : goal.returns-clause-count
returns-clause-count c =
    c.count_own.ensures ∙ ap (λ (ms : List Message). length (filter (λ (m : Message). m.sender == c.args.role || m.receiver == c.args.role) ms)) c.as_slice.ensures ∙ sym (messages_count c.args.x.now c.args.role)

pub returns-clause-few : goal.returns-clause-few
returns-clause-few c =
    omega (arith, messages_few c.args.x.now c.args.role, c.count_own.ensures ∙ ap (λ (ms : List Message). length (filter (λ (m : Message). m.sender == c.args.role || m.receiver == c.args.role) ms)) c.as_slice.ensures)
