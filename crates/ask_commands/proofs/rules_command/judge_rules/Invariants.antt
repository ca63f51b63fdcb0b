-- What is known and written of the rules so far, by searches of the protocol.
use Rattle.std.proofs.Common.{◌≡◌}
use Rattle.ask_commands.specs.inner.Rules.{HasJudged}
use Rattle.ask_commands.proofs.rules_command.judge_rules.Given as goal

-- those that were passed over are judged
abbrev pub invariant-loop-index : goal.invariant-loop-index
invariant-loop-index l = HasJudged l.protocol l.fn.options l.rules l.index l.so_far × (l.searches ≡ l.protocol)
