-- What is replied before it is written.
use Rattle.std.specs.Prelude.{◌≡◌, ◌⊎◌, ℕ, List, Option, Some}
use Rattle.program_frame.specs.declared.reply.Reply.{Reply}
use Rattle.refutation_log.specs.declared.refusal.LogRefusal.{LogRefusal}
use Rattle.refutation_log.specs.declared.refutation.Kind.{Kind}
use Rattle.refutation_log.specs.declared.refutation.Log.{Log}
use Rattle.refutation_log.specs.LogText.{IsTextOf}
use Rattle.refutation_log.specs.Refusal.{IsRefusedLog}
use Rattle.tool_input.specs.declared.rejection.Rejection.{Rejection}
use Rattle.tool_input.specs.declared.status.Status.{Status}
use Rattle.tool_input.specs.declared.status.Status.TheVariants.{Refused}
use Rattle.tool_input.specs.Rejection.{rejection_line}
use Rattle.rejections.specs.PartRejection.{log_rejection}
use Rattle.formula_check.specs.Answer.{IsLogAnswer}

-- the reply has this text and this status
pub record IsReply (text : List ℕ) (status : Status) (reply : Reply Status) : Type 0 where
  pub is_text : reply.text ≡ text
  pub is_status : reply.status ≡ status

-- it refuses for this rejection
pub record IsRefusal (rejection : Option Rejection) (reply : Reply Status) : Type 0 where
  pub reason : Rejection
  pub is_reason : rejection ≡ Some reason
  pub line : IsReply (rejection_line reason) Refused reply

-- it answers the log of which the part is the text
pub record IsAnswered (text part : List ℕ) (reply : Reply Status) : Type 0 where
  pub kind : Kind
  pub log : Log
  pub read : IsTextOf part kind log
  pub answer : IsLogAnswer text log reply.text reply.status

-- the part is the text of no log
pub record IsNoLog (part : List ℕ) (reply : Reply Status) : Type 0 where
  pub refusal : LogRefusal
  pub refused : IsRefusedLog part refusal
  pub line : IsRefusal (log_rejection refusal) reply

-- it is one or the other
abbrev pub IsPartReply : List ℕ → List ℕ → Reply Status → Type 0
IsPartReply text part reply = IsAnswered text part reply ⊎ IsNoLog part reply
