-- The headline: what each of the four lines that claim a property says is true of the protocol that
-- was judged, and so is what a line says of a message.
use Rattle.std.specs.Prelude.{◌≡◌, ℕ, List, ◌++◌, Option, IfSome, IsTrue}
use Rattle.bspl_types.specs.declared.expanded.Expanded.{Expanded}
use Rattle.bspl_types.specs.Name.{is_name}
use Rattle.bspl_io.specs.Traffic.{Traffic}
use Rattle.bspl_tool.specs.declared.task.Task.{Task}
use Rattle.program_frame.specs.Call.{AreRemaining}
use Rattle.tool_input.specs.Input.{Declares}
use Rattle.bspl_tool.specs.Claims.{Claim, IsClaimTrue, IsTrueOfMessage, MessageClaim, claim_line}
use Rattle.bspl_tool.specs.Claims.{message_claim_line}
use Rattle.bspl_tool.specs.Request.{Requests}
use Rattle.bspl_tool.specs.Interface.{judged_text}
use Rattle.bspl_tool.specs.Texts.{SaysLine}

-- the arguments request a task that judges the protocol, on the bytes that remain or its own text
pub record IsJudged (args : List (List ℕ)) (remaining : Option (List ℕ))
    (x : Expanded) : Type 0 where
  pub task : Task
  pub name : List ℕ
  pub requested : Requests args task name
  pub bytes : List ℕ
  pub input : AreRemaining remaining bytes
  pub judged : Declares name (judged_text task bytes) x

-- what each of the four lines that claim a property says, if the output has it, is true of the
-- protocol that is judged; a line that says of a message that it is dead, or that it is enacted,
-- names one of its messages, and is true of it
pub record IsTrueOf (args : List (List ℕ)) (remaining : Option (List ℕ))
    (out : List ℕ) : Type 0 where
  pub claimed : (claim : Claim) → SaysLine out (claim_line claim) →
      (x : Expanded) × IsJudged args remaining x × IsClaimTrue claim x
  pub messages : (claim : MessageClaim) (name : List ℕ) → IsTrue (is_name name) →
      SaysLine out (message_claim_line claim name) →
      (x : Expanded) × IsJudged args remaining x × IsTrueOfMessage claim x name

-- so it is with all that was written
abbrev pub TrueWhereSaid : List (List ℕ) → Traffic → Type 0
TrueWhereSaid args t = IfSome t.contents (λ before. IfSome t.contents_after (λ after.
    (out : List ℕ) → after ≡ before ++ out → IsTrueOf args t.remaining out))
