-- What becomes of a role once the text of its protocol is there.
use Rattle.std.specs.Prelude.{◌≡◌, ℕ, List}
use Rattle.program_frame.specs.declared.reply.Reply.{Reply}
use Rattle.tool_input.specs.declared.status.Status.{Status}
use Rattle.live_role.specs.Judgement.{AcceptsRole, Declines}
use Rattle.live_role.specs.Request.{RoleRequest}
use Rattle.live_role.specs.declared.judged.Judged.{Judged}
use Rattle.live_role.specs.declared.judged.Judged.TheVariants.{Accepted, Declined}

-- the reply has this text and this status
pub record IsReply (text : List ℕ) (status : Status) (reply : Reply Status) : Type 0 where
  pub is_text : reply.text ≡ text
  pub is_status : reply.status ≡ status

-- there is a reason against it, or it is accepted
abbrev pub IsJudged : RoleRequest → List ℕ → Judged → Type 0
IsJudged r text (Declined reply) = Declines r text reply.text reply.status
IsJudged r text (Accepted protocol role) = AcceptsRole r text protocol role
