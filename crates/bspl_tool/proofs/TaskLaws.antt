-- The laws of each command.
use Rattle.bspl_tool.specs.declared.task.Task.{Task}
use Rattle.bspl_tool.specs.declared.task.Task.TheVariants.{Audit, Check, CheckDead, Dead, Expand, Generate, Replay, Restart, Run, Serve, Verify}
use Rattle.evidence_commands.specs.AuditAnswer.{audit_rules}
use Rattle.evidence_commands.specs.CheckAnswer.{check_rules}
use Rattle.evidence_commands.specs.CheckDeadAnswer.{check_dead_rules}
use Rattle.verdict_commands.specs.ExpandAnswer.{expand_rules}
use Rattle.agent_commands.specs.GenerateAnswer.{generate_rules}
use Rattle.evidence_commands.specs.ReplayAnswer.{replay_rules}
use Rattle.agent_commands.specs.RestartAnswer.{restart_rules}
use Rattle.agent_commands.specs.RunAnswer.{run_rules}
use Rattle.agent_commands.specs.ServeAnswer.{OneServeAnswer, serve_rules}
use Rattle.bspl_tool.specs.Task.{task_rules}
use Rattle.bspl_tool.proofs.AuditLaws.{OneAudit, audit_laws}
use Rattle.bspl_tool.proofs.CheckDeadLaws.{OneCheckDead, check_dead_laws}
use Rattle.bspl_tool.proofs.CheckLaws.{OneCheck, check_laws}
use Rattle.bspl_tool.proofs.CommandLaws.{CommandLaws, with_more}
use Rattle.bspl_tool.proofs.AgentsLaws.{OneAgents}
use Rattle.bspl_tool.proofs.DeadLaws.{dead_laws}
use Rattle.bspl_tool.proofs.ExpandLaws.{OnePrinting, expand_laws}
use Rattle.bspl_tool.proofs.GenerateLaws.{generate_laws}
use Rattle.bspl_tool.proofs.ReplayLaws.{OneReplay, replay_laws}
use Rattle.bspl_tool.proofs.RestartLaws.{restart_laws}
use Rattle.bspl_tool.proofs.RunLaws.{run_laws}
use Rattle.bspl_tool.proofs.ServeLaws.{serve_laws}
use Rattle.bspl_tool.proofs.VerifyLaws.{verify_laws}

-- what is read and printed has one answer
pub record OneEvidence : Type 0 where
  pub printing : OnePrinting
  pub check : OneCheck
  pub replay : OneReplay
  pub agents : OneAgents
  pub dead : OneCheckDead
  pub audit : OneAudit
  pub serve : OneServeAnswer

-- one row for each command
pub laws_of : (task : Task) → CommandLaws OneEvidence (task_rules task)
laws_of Expand = with_more expand_rules (λ once. once.printing) expand_laws
laws_of (Verify brief conflicts) = verify_laws brief conflicts
laws_of Check = with_more check_rules (λ once. once.check) check_laws
laws_of Replay = with_more replay_rules (λ once. once.replay) replay_laws
laws_of (Run brief conflicts threads) = with_more (run_rules brief conflicts threads) (λ once. once.agents) (run_laws brief conflicts threads)
laws_of (Restart brief conflicts) = with_more (restart_rules brief conflicts) (λ once. once.agents) (restart_laws brief conflicts)
laws_of (Dead brief conflicts) = dead_laws brief conflicts
laws_of CheckDead = with_more check_dead_rules (λ once. once.dead) check_dead_laws
laws_of Serve = with_more serve_rules (λ once. once.serve) serve_laws
laws_of Audit = with_more audit_rules (λ once. once.audit) audit_laws
laws_of (Generate stages conflicts threads) = with_more (generate_rules stages conflicts threads) (λ once. once.agents) (generate_laws stages conflicts threads)
