-- How a call ends, and which faults are counted.
use Rattle.std.proofs.Common.{◌≡◌, ℕ, List, Result, Ok, Err, refl, sym, ap, subst}
use Rattle.bspl_io.specs.Traffic.{Traffic}
use Rattle.kept_lines.specs.Flow.{IsCountedIf, StreamFaults}
use Rattle.kept_lines.specs.Stream.{NamesItsFault}
use Rattle.kept_lines.specs.declared.stream_refusal.StreamRefusal.{StreamRefusal}
use Rattle.kept_lines.specs.declared.stream_refusal.StreamRefusal.TheVariants as refusal
use Rattle.program_frame.specs.declared.ending.Ending.{Ending}
use Rattle.program_frame.specs.declared.ending.Ending.TheVariants as ending
use Rattle.program_frame.specs.declared.ending.Ending.TheVariants.{Answered, NoMemory, ReadFault, WriteFault}
use Rattle.tool_input.specs.declared.status.Status.{Status}
use Rattle.live_role.specs.Call.{IsRoleCall, NamesRoleFault, declined, unread}
use Rattle.live_role.specs.Journal.{JournalsAt}
use Rattle.live_role.specs.Request.{RequestsRole, RoleRequest}
use Rattle.live_role.specs.Serving.{serving_ending}
use Rattle.live_role.specs.declared.role_end.RoleEnd.{RoleEnd}
use Rattle.live_role.specs.declared.role_end.RoleEnding.{RoleEnding}
use Rattle.live_role.specs.declared.role_end.RoleEnding.TheVariants.{Ended, NotKept}
use Rattle.live_role.specs.declared.journal_choice.RoleJournal.TheVariants.{Unkept}
use Rattle.live_role.specs.inner.Prepared.{EndsUnserved}

-- what is counted for one fault is counted for another that comes with it
counted_as : (fault other : Type 0) (count after : ℕ) → (other → fault) → (fault → other) → IsCountedIf fault count after → IsCountedIf other count after
counted_as fault other count after to from is = record { counted = λ it. is.counted (to it); still = λ none. is.still (λ it. none (from it)) }

-- after serving the one fault that was counted is named
serving_names : {X : Type 0} (c : StreamFaults) (served : Result X StreamRefusal) → NamesItsFault c served → NamesRoleFault c (serving_ending served)
serving_names c (Ok x) is = record {
  read = counted_as _ _ c.reads c.reads_after (λ it. absurd cc) (λ it. absurd cc) is.read;
  write = counted_as _ _ c.writes c.writes_after (λ it. absurd cc) (λ it. absurd cc) is.write;
  keep = counted_as _ _ c.keeps c.keeps_after (λ it. absurd cc) (λ it. absurd cc) is.keep;
}
serving_names c (Err refusal.ReadFault) is = record {
  read = counted_as _ _ c.reads c.reads_after (λ it. refl) (λ it. refl) is.read;
  write = counted_as _ _ c.writes c.writes_after (λ it. absurd cc) (λ it. absurd cc) is.write;
  keep = counted_as _ _ c.keeps c.keeps_after (λ it. absurd cc) (λ it. absurd cc) is.keep;
}
serving_names c (Err refusal.WriteFault) is = record {
  read = counted_as _ _ c.reads c.reads_after (λ it. absurd cc) (λ it. absurd cc) is.read;
  write = counted_as _ _ c.writes c.writes_after (λ it. refl) (λ it. refl) is.write;
  keep = counted_as _ _ c.keeps c.keeps_after (λ it. absurd cc) (λ it. absurd cc) is.keep;
}
serving_names c (Err refusal.JournalFault) is = record {
  read = counted_as _ _ c.reads c.reads_after (λ it. absurd cc) (λ it. absurd cc) is.read;
  write = counted_as _ _ c.writes c.writes_after (λ it. absurd cc) (λ it. absurd cc) is.write;
  keep = counted_as _ _ c.keeps c.keeps_after (λ it. refl) (λ it. refl) is.keep;
}
serving_names c (Err refusal.TooLong) is = record {
  read = counted_as _ _ c.reads c.reads_after (λ it. absurd cc) (λ it. absurd cc) is.read;
  write = counted_as _ _ c.writes c.writes_after (λ it. absurd cc) (λ it. absurd cc) is.write;
  keep = counted_as _ _ c.keeps c.keeps_after (λ it. absurd cc) (λ it. absurd cc) is.keep;
}
serving_names c (Err refusal.NoMemory) is = record {
  read = counted_as _ _ c.reads c.reads_after (λ it. absurd cc) (λ it. absurd cc) is.read;
  write = counted_as _ _ c.writes c.writes_after (λ it. absurd cc) (λ it. absurd cc) is.write;
  keep = counted_as _ _ c.keeps c.keeps_after (λ it. absurd cc) (λ it. absurd cc) is.keep;
}

-- so it is with the counts from before, when no fault of reading or keeping had been counted
pub served_names : {X : Type 0} (reads reads_then reads_after writes writes_after keeps keeps_after : ℕ) (served : Result X StreamRefusal) (end : RoleEnding) → reads_then ≡ reads → keeps ≡ 0 → end ≡ serving_ending served → NamesItsFault (record { reads = reads_then; reads_after = reads_after; writes = writes; writes_after = writes_after; keeps = keeps; keeps_after = keeps_after }) served → NamesRoleFault (record { reads = reads; reads_after = reads_after; writes = writes; writes_after = writes_after; keeps = 0; keeps_after = keeps_after }) end
served_names reads reads_then reads_after writes writes_after keeps keeps_after served end same none is names =
    let after : NamesRoleFault (record { reads = reads_then; reads_after = reads_after; writes = writes; writes_after = writes_after; keeps = keeps; keeps_after = keeps_after }) (serving_ending served) =
    serving_names (record { reads = reads_then; reads_after = reads_after; writes = writes; writes_after = writes_after; keeps = keeps; keeps_after = keeps_after }) served names in
    subst (NamesRoleFault (record { reads = reads; reads_after = reads_after; writes = writes; writes_after = writes_after; keeps = 0; keeps_after = keeps_after })) (sym is)
    (subst (λ (k : ℕ). NamesRoleFault (record { reads = reads; reads_after = reads_after; writes = writes; writes_after = writes_after; keeps = k; keeps_after = keeps_after }) (serving_ending served)) none
    (subst (λ (r : ℕ). NamesRoleFault (record { reads = r; reads_after = reads_after; writes = writes; writes_after = writes_after; keeps = keeps; keeps_after = keeps_after }) (serving_ending served)) same after))

-- a call that ended before it wrote
pub ended_call : {J : Type 0} (at : JournalsAt J) (args : List (List ℕ)) (r : RoleRequest) (t : Traffic) (tool_end : Ending Status) (end : RoleEnd J) → RequestsRole args r → EndsUnserved t.remaining t.remaining_after tool_end → t.contents_after ≡ t.contents → end ≡ record { ending = Ended tool_end; journal = Unkept } → IsRoleCall at args t end
ended_call at args r t (Answered status) end requests ends still is = absurd ends
ended_call at args r t WriteFault end requests ends still is = absurd ends
ended_call at args r t ReadFault end requests ends still is = unread r requests (ap (λ (e : RoleEnd _). e.journal) is) ends (ap (λ (e : RoleEnd _). e.ending) is) still
ended_call at args r t NoMemory end requests ends still is = declined r requests (ap (λ (e : RoleEnd _). e.journal) is) (record { made = Err (record {}); is_right = tt; tool_end = NoMemory; written = (refl, still); ends = ap (λ (e : RoleEnd _). e.ending) is })
