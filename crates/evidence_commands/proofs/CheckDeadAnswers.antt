-- What `check-dead` answers, from what is read and checked.
use Rattle.std.proofs.Common.{◌≡◌, ℕ, List, inl, inr, refl}
use Rattle.bspl_types.specs.declared.expanded.Expanded.{Expanded}
use Rattle.bspl_types.specs.Expansion.{message_name}
use Rattle.enactability.specs.Check.{AcceptsDead, FailsDead}
use Rattle.enactability.specs.DeadText.{IsDeadText}
use Rattle.enactability.specs.Enactable.{Enactable}
use Rattle.rejections.specs.FailureLine.{reject_line}
use Rattle.log_checker.specs.declared.refusal.Reject.{Reject}
use Rattle.refutation_log.specs.declared.refutation.Log.{Log}
use Rattle.tool_input.specs.declared.status.Status.TheVariants.{Done, Refuted}
use Rattle.tool_input.specs.Lines.{line}
use Rattle.evidence_commands.specs.CheckDeadAnswer.{IsCheckDeadAnswer}
use Rattle.evidence_commands.specs.CheckDeadAnswer.{accepted_dead_line}

-- a log that is accepted
pub accepted_dead : (x : Expanded) (part out : List ℕ) (m : ℕ) (log : Log) → IsDeadText x part m log → AcceptsDead x m log → ¬ Enactable x m → out ≡ line (accepted_dead_line (message_name x m)) → IsCheckDeadAnswer x part out Done
accepted_dead x part out m log read accepts dead is = record { message = m; log = log; read = read; answer = inl (record { accepts = accepts; dead = dead; text = is; done = refl }) }

-- and one that is not
pub rejected_dead : (x : Expanded) (part out : List ℕ) (m : ℕ) (log : Log) (reject : Reject) → IsDeadText x part m log → FailsDead x m log reject → out ≡ reject_line reject → IsCheckDeadAnswer x part out Refuted
rejected_dead x part out m log reject read fails is = record { message = m; log = log; read = read; answer = inr (record { reject = reject; fails = fails; text = is; refuted = refl }) }
