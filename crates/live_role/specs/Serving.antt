-- How a role is served once it is accepted.
use Rattle.std.specs.Prelude.{◌≡◌, ℕ, List, Option, Result, Ok, Err, IfErr, IfOk}
use Rattle.bspl_io.specs.Traffic.{Traffic}
use Rattle.bspl_types.specs.declared.expanded.Expanded.{Expanded}
use Rattle.kept_lines.specs.Flow.{Flow}
use Rattle.kept_lines.specs.Stream.{AnswersAll, StopsAnswering}
use Rattle.kept_lines.specs.declared.stream_refusal.StreamRefusal.{StreamRefusal}
use Rattle.kept_lines.specs.declared.stream_refusal.StreamRefusal.TheVariants as refusal
use Rattle.local_store.specs.State.{StoreState}
use Rattle.program_frame.specs.declared.ending.Ending.TheVariants as ending
use Rattle.role_questions.specs.Asked.{AskedReplies}
use Rattle.tool_input.specs.declared.status.Status.TheVariants.{Done, Refused}
use Rattle.live_role.specs.Journal.{BeginsFrom, JournalsAt, kept_by}
use Rattle.live_role.specs.Judgement.{AcceptsRole}
use Rattle.live_role.specs.Opening.{TakesOpening}
use Rattle.live_role.specs.Request.{RoleRequest}
use Rattle.live_role.specs.declared.role_end.RoleEnd.{RoleEnd}
use Rattle.live_role.specs.declared.role_end.RoleEnding.{RoleEnding}
use Rattle.live_role.specs.declared.role_end.RoleEnding.TheVariants.{Ended, NotKept}
use Rattle.live_role.specs.declared.journal_choice.RoleJournal.{RoleJournal}

-- the most bytes that may come once the role is served: as many as are counted
abbrev pub stream_limit : ℕ
stream_limit = 18446744073709551615

-- how a call ends after serving
abbrev pub serving_ending : {X : Type 0} → Result X StreamRefusal → RoleEnding
serving_ending (Ok end) = Ended (ending.Answered Done)
serving_ending (Err refusal.ReadFault) = Ended ending.ReadFault
serving_ending (Err refusal.JournalFault) = NotKept
serving_ending (Err refusal.WriteFault) = Ended ending.WriteFault
serving_ending (Err refusal.TooLong) = Ended (ending.Answered Refused)
serving_ending (Err refusal.NoMemory) = Ended ending.NoMemory

-- the role is accepted, and begins with the store, the journal and what was taken ahead
pub record BeginsRole {J : Type 0} (at : JournalsAt J) (r : RoleRequest)
    (old new : Option (List ℕ)) (store : StoreState) (journal : RoleJournal J) (ahead : List ℕ)
    : Type 0 where
  pub text : List ℕ
  pub opening : TakesOpening text ahead old new
  pub protocol : Expanded
  pub index : ℕ
  pub accepted : AcceptsRole r text protocol index
  pub begins : BeginsFrom at r.journal protocol index store journal

-- what passes while the role is served, from what remains after the opening on
abbrev pub serving_flow : {J : Type 0} → (J → Option (List ℕ)) → Traffic → Option (List ℕ) →
    RoleJournal J → RoleJournal J → Flow
serving_flow kept t between journal journal_after = record {
  remaining = between;
  remaining_after = t.remaining_after;
  contents = t.contents;
  contents_after = t.contents_after;
  kept = kept_by kept journal;
  kept_after = kept_by kept journal_after;
}

-- the role was served: the events of its lines are kept, and the replies are the output, as far as
-- they came
pub record ServesRole {J : Type 0} (at : JournalsAt J) (r : RoleRequest) (t : Traffic)
    (end : RoleEnd J) : Type 0 where
  pub between : Option (List ℕ)
  pub store : StoreState
  pub journal : RoleJournal J
  pub ahead : List ℕ
  pub begins : BeginsRole at r t.remaining between store journal ahead
  pub served : Result StoreState StreamRefusal
  pub all : IfOk served (AnswersAll AskedReplies store ahead stream_limit
      (serving_flow at.kept t between journal end.journal))
  pub stops : IfErr served (StopsAnswering AskedReplies store ahead stream_limit
      (serving_flow at.kept t between journal end.journal))
  pub ends : end.ending ≡ serving_ending served
