-- What one call reads, keeps and writes.
use Rattle.std.specs.Prelude.{◌≡◌, ℕ, List, Option, Some, Result, IfOk, codes}
use Rattle.bspl_io.specs.Traffic.{Traffic}
use Rattle.bspl_types.specs.declared.expanded.Expanded.{Expanded}
use Rattle.bspl_types.specs.Limits.{input_limit}
use Rattle.kept_lines.specs.Flow.{IsCountedIf, StreamFaults}
use Rattle.list_base.specs.declared.memory.NoMemory.{NoMemory as OutOfMemory}
use Rattle.program_frame.specs.declared.ending.Ending.{Ending}
use Rattle.program_frame.specs.declared.ending.Ending.TheVariants as ending
use Rattle.program_frame.specs.declared.reply.Reply.{Reply}
use Rattle.program_frame.specs.Reply.{IsWritten}
use Rattle.tool_input.specs.declared.status.Status.{Status}
use Rattle.tool_input.specs.declared.status.Status.TheVariants.{Refused, Usage}
use Rattle.tool_input.specs.declared.parts.Part.TheVariants.{Wire}
use Rattle.tool_input.specs.Rejection.{lacks_part, over_limit, rejection_line}
use Rattle.live_role.specs.Journal.{JournalsAt}
use Rattle.live_role.specs.Judgement.{AcceptsRole, Declines}
use Rattle.live_role.specs.Opening.{EndsUnopened, IsUnopenedTooLong, TakesOpening, TakesUnopened}
use Rattle.live_role.specs.RefusedJournal.{RefusesJournal, journal_line}
use Rattle.live_role.specs.Request.{JournalRequest, RequestsNothing, RequestsRole, RoleRequest}
use Rattle.live_role.specs.Serving.{ServesRole}
use Rattle.live_role.specs.declared.journal_refusal.JournalRefusal.{JournalRefusal}
use Rattle.live_role.specs.declared.role_end.RoleEnd.{RoleEnd}
use Rattle.live_role.specs.declared.role_end.RoleEnding.{RoleEnding}
use Rattle.live_role.specs.declared.role_end.RoleEnding.TheVariants.{Ended, NotKept}
use Rattle.live_role.specs.declared.journal_choice.RoleJournal.TheVariants.{Unkept}

-- the line for invalid arguments
abbrev pub role_usage : List ℕ
role_usage = codes "usage: bspl_role NAME ROLE [--unchecked] [--journal FILE [--no-sync]]\n"

-- what is answered in place of serving the role
pub data IsDeclined {J : Type 0} (at : JournalsAt J) (r : RoleRequest) (old new : Option (List ℕ))
    (out : List ℕ) (status : Status) : Type 0 where
  -- the line does not come
  no_line : EndsUnopened old new → out ≡ rejection_line (lacks_part Wire) → status ≡ Refused
      → IsDeclined at r old new out status
  -- too many bytes come before it
  too_long : IsUnopenedTooLong old new → out ≡ rejection_line (over_limit input_limit)
      → status ≡ Refused → IsDeclined at r old new out status
  -- it comes, and there is a reason in the text before it
  judged : (text ahead : List ℕ) → TakesOpening text ahead old new
      → Declines r text out status → IsDeclined at r old new out status
  -- the role is accepted, and its journal is refused
  unopened : (text ahead : List ℕ) → TakesOpening text ahead old new
      → (x : Expanded) (index : ℕ) → AcceptsRole r text x index
      → (j : JournalRequest) → r.journal ≡ Some j
      → (refused : JournalRefusal) → RefusesJournal at j.path x index refused
      → out ≡ journal_line refused → status ≡ Refused → IsDeclined at r old new out status

-- a right reply was made, and written as far as the ending says; or memory ran out
pub record RepliesRightly (right : List ℕ → Status → Type 0) (t : Traffic) (end : RoleEnding)
    : Type 0 where
  pub made : Result (Reply Status) OutOfMemory
  pub is_right : IfOk made (λ reply. right reply.text reply.status)
  pub tool_end : Ending Status
  pub written : IsWritten made t.contents t.contents_after tool_end
  pub ends : end ≡ Ended tool_end

-- a call with these arguments
pub data IsRoleCall {J : Type 0} (at : JournalsAt J) (args : List (List ℕ)) (t : Traffic)
    (end : RoleEnd J) : Type 0 where
  -- the arguments are invalid, and nothing is taken
  usage : RequestsNothing args → t.remaining_after ≡ t.remaining → end.journal ≡ Unkept
      → RepliesRightly (λ out status. (out ≡ role_usage) × (status ≡ Usage)) t end.ending
      → IsRoleCall at args t end
  -- the role is not served
  declined : (r : RoleRequest) → RequestsRole args r → end.journal ≡ Unkept
      → RepliesRightly (IsDeclined at r t.remaining t.remaining_after) t end.ending
      → IsRoleCall at args t end
  -- reading fails before the line came: once it is there, no more is read until the role is served
  unread : (r : RoleRequest) → RequestsRole args r → end.journal ≡ Unkept
      → TakesUnopened t.remaining t.remaining_after
      → end.ending ≡ Ended ending.ReadFault → t.contents_after ≡ t.contents
      → IsRoleCall at args t end
  -- it is served
  served : (r : RoleRequest) → RequestsRole args r → ServesRole at r t end
      → IsRoleCall at args t end

-- the ending names the one fault that was counted
pub record NamesRoleFault (c : StreamFaults) (end : RoleEnding) : Type 0 where
  pub read : IsCountedIf (end ≡ Ended ending.ReadFault) c.reads c.reads_after
  pub write : IsCountedIf (end ≡ Ended ending.WriteFault) c.writes c.writes_after
  pub keep : IsCountedIf (end ≡ NotKept) c.keeps c.keeps_after
