-- What `check` answers, from what is read and checked.
use Rattle.std.proofs.Common.{◌≡◌, ℕ, List, inl, inr, refl}
use Rattle.bspl_types.specs.declared.expanded.Expanded.{Expanded}
use Rattle.enactment_model.specs.Property.{Holds}
use Rattle.log_checker.specs.declared.refusal.Reject.{Reject}
use Rattle.protocol_check.specs.Check.{AcceptsLog, FailsLog, property_of}
use Rattle.refutation_log.specs.declared.refutation.Kind.{Kind}
use Rattle.refutation_log.specs.declared.refutation.Log.{Log}
use Rattle.refutation_log.specs.LogText.{IsTextOf}
use Rattle.rejections.specs.FailureLine.{reject_line}
use Rattle.tool_input.specs.declared.status.Status.TheVariants.{Done, Refuted}
use Rattle.tool_input.specs.Lines.{line}
use Rattle.evidence_commands.specs.CheckAnswer.{IsCheckAnswer, accepted_kind_line}

-- a log that is accepted
pub accepted_answer : (x : Expanded) (part out : List ℕ) (kind : Kind) (log : Log) → IsTextOf part kind log → AcceptsLog (property_of kind) x log → Holds (property_of kind) x → out ≡ line (accepted_kind_line kind) → IsCheckAnswer x part out Done
accepted_answer x part out kind log read accepts holds is = record { kind = kind; log = log; read = read; answer = inl (record { accepts = accepts; holds = holds; text = is; done = refl }) }

-- and one that is not
pub rejected_answer : (x : Expanded) (part out : List ℕ) (kind : Kind) (log : Log) (reject : Reject) → IsTextOf part kind log → FailsLog (property_of kind) x log reject → out ≡ reject_line reject → IsCheckAnswer x part out Refuted
rejected_answer x part out kind log reject read fails is = record { kind = kind; log = log; read = read; answer = inr (record { reject = reject; fails = fails; text = is; refuted = refl }) }
