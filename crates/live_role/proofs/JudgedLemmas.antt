-- What becomes of a role.
use Rattle.std.proofs.Common.{◌≡◌, ℕ, List, Option, Some, None, Result, Ok, Err, IfOk}
use Rattle.bspl_types.specs.declared.expanded.Expanded.{Expanded}
use Rattle.bspl_types.specs.Limits.{input_limit}
use Rattle.list_base.specs.declared.memory.NoMemory.{NoMemory as OutOfMemory}
use Rattle.local_store.specs.State.{StoreState}
use Rattle.program_frame.specs.declared.reply.Reply.{Reply}
use Rattle.tool_input.specs.declared.status.Status.{Status}
use Rattle.tool_input.specs.declared.status.Status.TheVariants as status
use Rattle.tool_input.specs.declared.parts.Part.TheVariants.{Wire}
use Rattle.tool_input.specs.Rejection.{lacks_part, over_limit, rejection_line}
use Rattle.live_role.specs.Call.{no_line, too_long, unopened}
use Rattle.live_role.specs.Journal.{BeginsFrom, JournalsAt}
use Rattle.live_role.specs.Judgement.{AcceptsRole}
use Rattle.live_role.specs.Opening.{EndsUnopened, IsUnopenedTooLong, TakesOpening}
use Rattle.live_role.specs.RefusedJournal.{journal_line}
use Rattle.live_role.specs.Request.{JournalRequest, RoleRequest}
use Rattle.live_role.specs.Serving.{BeginsRole}
use Rattle.live_role.specs.declared.begun.Unbegun.TheVariants.{Refused}
use Rattle.live_role.specs.declared.journal_refusal.JournalRefusal.{JournalRefusal}
use Rattle.live_role.specs.declared.journal_choice.RoleJournal.{RoleJournal}
use Rattle.live_role.specs.inner.Begun.{CannotBegin}
use Rattle.live_role.specs.inner.Judged.{IsReply}
use Rattle.live_role.specs.inner.Prepared.{IsPrepared, prepared_of}

module _ {J : Type 0} (at : JournalsAt J) (r : RoleRequest) (old new : Option (List ℕ)) where
  module _ (text ahead : List ℕ) (x : Expanded) (index : ℕ) (opening : TakesOpening text ahead old new) (accepted : AcceptsRole r text x index) where
    -- the role begins
    pub begins : (store : StoreState) (journal : RoleJournal J) → BeginsFrom at r.journal x index store journal → BeginsRole at r old new store journal ahead
    begins store journal is = record { text = text; opening = opening; protocol = x; index = index; accepted = accepted; begins = is }

    -- its journal is refused
    pub refused_journal : (wanted : Option JournalRequest) (refusal : JournalRefusal) (made : Result (Reply Status) OutOfMemory) → r.journal ≡ wanted → CannotBegin at wanted x index (Refused refusal) → IfOk made (IsReply (journal_line refusal) status.Refused) → IsPrepared at r old new (prepared_of made)
    refused_journal None refusal made same cannot is = absurd cannot
    refused_journal (Some j) refusal (Ok reply) same cannot is = unopened text ahead opening x index accepted j same refusal cannot is.is_text is.is_status
    refused_journal (Some j) refusal (Err e) same cannot is = tt
