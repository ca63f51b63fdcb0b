-- The tasks of the tool: one row of rules for each, and the task of each command.
use Rattle.std.specs.Prelude.{ℕ, Bool, List, Option, None, Some, ⊤}
use Rattle.command_line.specs.declared.command.Command.{Command}
use Rattle.command_line.specs.declared.command.Command.TheVariants as command
use Rattle.workload.specs.Stage.{stage_text}
use Rattle.bspl_tool.specs.declared.task.Task.{Task}
use Rattle.bspl_tool.specs.declared.task.Task.TheVariants.{Audit, Check, CheckDead, Dead, Expand, Generate, Replay, Restart, Run, Serve, Verify}
use Rattle.evidence_commands.specs.AuditAnswer.{audit_rules}
use Rattle.evidence_commands.specs.CheckAnswer.{check_rules}
use Rattle.evidence_commands.specs.CheckDeadAnswer.{check_dead_rules}
use Rattle.verdict_commands.specs.DeadAnswer.{dead_rules}
use Rattle.verdict_commands.specs.ExpandAnswer.{expand_rules}
use Rattle.agent_commands.specs.GenerateAnswer.{generate_rules}
use Rattle.evidence_commands.specs.ReplayAnswer.{replay_rules}
use Rattle.agent_commands.specs.RestartAnswer.{restart_rules}
use Rattle.tool_input.specs.Rules.{CommandRules}
use Rattle.agent_commands.specs.RunAnswer.{run_rules}
use Rattle.agent_commands.specs.ServeAnswer.{serve_rules}
use Rattle.verdict_commands.specs.VerifyAnswer.{verify_rules}

-- the rules of each task
abbrev pub task_rules : Task → CommandRules
task_rules Expand = expand_rules
task_rules (Verify brief conflicts) = verify_rules brief conflicts
task_rules Check = check_rules
task_rules Replay = replay_rules
task_rules (Run brief conflicts threads) = run_rules brief conflicts threads
task_rules (Restart brief conflicts) = restart_rules brief conflicts
task_rules (Dead brief conflicts) = dead_rules brief conflicts
task_rules CheckDead = check_dead_rules
task_rules Serve = serve_rules
task_rules Audit = audit_rules
task_rules (Generate stages conflicts threads) = generate_rules stages conflicts threads

-- the task of a command on the protocol of a name, with its options; `generate` has none
abbrev pub task_of : Command → Bool → ℕ → ℕ → Option Task
task_of command.Verify brief conflicts threads = Some (Verify brief conflicts)
task_of command.Check brief conflicts threads = Some Check
task_of command.Replay brief conflicts threads = Some Replay
task_of command.Expand brief conflicts threads = Some Expand
task_of command.Run brief conflicts threads = Some (Run brief conflicts threads)
task_of command.Restart brief conflicts threads = Some (Restart brief conflicts)
task_of command.Generate brief conflicts threads = None
task_of command.Dead brief conflicts threads = Some (Dead brief conflicts)
task_of command.CheckDead brief conflicts threads = Some CheckDead
task_of command.Serve brief conflicts threads = Some Serve
task_of command.Audit brief conflicts threads = Some Audit

-- how many threads each role has in a task; with none, agents play on the thread of the call
abbrev pub task_threads : Task → ℕ
task_threads (Run brief conflicts threads) = threads
task_threads (Generate stages conflicts threads) = threads
task_threads task = 0

-- the text that a task makes for itself and is done on in place of the input
abbrev pub own_text : Task → Option (List ℕ)
own_text (Generate stages conflicts threads) = Some (stage_text stages)
own_text task = None

-- it is answered at once, and no agents are to play
abbrev pub IsAnsweredWhole : Task → Type 0
IsAnsweredWhole (Run brief conflicts threads) = ⊥
IsAnsweredWhole (Restart brief conflicts) = ⊥
IsAnsweredWhole (Generate stages conflicts threads) = ⊥
IsAnsweredWhole task = ⊤
