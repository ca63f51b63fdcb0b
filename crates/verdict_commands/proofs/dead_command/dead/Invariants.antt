-- What is known and written of the messages so far.
use Rattle.std.proofs.Common.{◌≡◌}
use Rattle.verdict_commands.specs.inner.Messages.{HasAnswered}
use Rattle.verdict_commands.proofs.dead_command.dead.Given as goal

-- the messages so far are answered, and the search is one of the same protocol
abbrev pub invariant-loop-message : goal.invariant-loop-message
invariant-loop-message l = HasAnswered l.brief l.conflicts l.protocol l.message l.so_far × (l.search ≡ l.protocol)
