-- Which refusal ends a stream, and which fault it names.
use Rattle.std.proofs.Common.{◌≡◌, ℕ, List, Result, Ok, Err, IfErr, IsErrAnd, IsErrOf, refl, sym, ap, subst}
use Rattle.bspl_io.specs.Faults.{HasCounted}
use Rattle.kept_lines.specs.Answers.{LineRule}
use Rattle.kept_lines.specs.Flow.{Flow, IsCountedIf, StreamFaults}
use Rattle.kept_lines.specs.Stream.{CutsAnswers, NamesItsFault, StopsAnswering}
use Rattle.kept_lines.specs.StreamEnd.{stream_refusal}
use Rattle.kept_lines.specs.declared.answer.AnswerRefusal.{AnswerRefusal}
use Rattle.kept_lines.specs.declared.answer.AnswerRefusal.TheVariants as answer
use Rattle.kept_lines.specs.declared.stream_refusal.StreamRefusal.{StreamRefusal}
use Rattle.kept_lines.specs.declared.stream_refusal.StreamRefusal.TheVariants as refusal

-- answers that are cut short are so for either cause
pub cut_stops : {S : Type 0} (answers : LineRule S) (s : S) (ahead : List ℕ) (limit : ℕ) (f : Flow) (w : AnswerRefusal) → ¬ (w ≡ answer.JournalFault) → CutsAnswers answers s ahead limit f → StopsAnswering answers s ahead limit f (stream_refusal w)
cut_stops answers s ahead limit f answer.JournalFault none cut = absurd (none refl)
cut_stops answers s ahead limit f answer.WriteFault none cut = cut
cut_stops answers s ahead limit f answer.NoMemory none cut = cut

-- a cause is the answer
pub stops_for : {S X : Type 0} (answers : LineRule S) (s : S) (ahead : List ℕ) (limit : ℕ) (f : Flow) (result : Result X StreamRefusal) (r : StreamRefusal) → IsErrAnd result (λ e. e ≡ r) → StopsAnswering answers s ahead limit f r → IfErr result (StopsAnswering answers s ahead limit f)
stops_for answers s ahead limit f (Ok x) r is stops = tt
stops_for answers s ahead limit f (Err e) r is stops = subst (StopsAnswering answers s ahead limit f) (sym is) stops

-- a count of faults that stays, where the answer is another
counts_other : (fault : Type 0) (old new : ℕ) → ¬ fault → new ≡ old → IsCountedIf fault old new
counts_other fault old new other same = record { counted = λ is. absurd (other is); still = λ _. same }

-- a fault of the journal or of the sink is named
pub names_answer : {X : Type 0} (c : StreamFaults) (result : Result X StreamRefusal) (w : AnswerRefusal) → IsErrAnd result (λ r. r ≡ stream_refusal w) → c.reads_after ≡ c.reads → IsCountedIf (w ≡ answer.WriteFault) c.writes c.writes_after → IsCountedIf (w ≡ answer.JournalFault) c.keeps c.keeps_after → NamesItsFault c result
names_answer c (Ok x) w is reads writes keeps = absurd is
names_answer c (Err r) answer.JournalFault is reads writes keeps = record {
  read = counts_other _ c.reads c.reads_after (λ other. absurd (cc)) reads;
  write = counts_other _ c.writes c.writes_after (λ other. absurd (cc)) (writes.still (λ other. absurd (cc)));
  keep = record { counted = λ _. keeps.counted refl; still = λ other. absurd (other (ap (λ (e : StreamRefusal). Err e) is)) };
}
names_answer c (Err r) answer.WriteFault is reads writes keeps = record {
  read = counts_other _ c.reads c.reads_after (λ other. absurd (cc)) reads;
  write = record { counted = λ _. writes.counted refl; still = λ other. absurd (other (ap (λ (e : StreamRefusal). Err e) is)) };
  keep = counts_other _ c.keeps c.keeps_after (λ other. absurd (cc)) (keeps.still (λ other. absurd (cc)));
}
names_answer c (Err r) answer.NoMemory is reads writes keeps = record {
  read = counts_other _ c.reads c.reads_after (λ other. absurd (cc)) reads;
  write = counts_other _ c.writes c.writes_after (λ other. absurd (cc)) (writes.still (λ other. absurd (cc)));
  keep = counts_other _ c.keeps c.keeps_after (λ other. absurd (cc)) (keeps.still (λ other. absurd (cc)));
}

-- a fault of the source is named
pub names_read : {X : Type 0} (c : StreamFaults) (result : Result X StreamRefusal) → IsErrAnd result (λ r. r ≡ refusal.ReadFault) → HasCounted c.reads c.reads_after → c.writes_after ≡ c.writes → c.keeps_after ≡ c.keeps → NamesItsFault c result
names_read c (Ok x) is reads writes keeps = absurd is
names_read c (Err r) is reads writes keeps = record {
  read = record { counted = λ _. reads; still = λ other. absurd (other (ap (λ (e : StreamRefusal). Err e) is)) };
  write = counts_other _ c.writes c.writes_after (λ other. absurd (cc)) writes;
  keep = counts_other _ c.keeps c.keeps_after (λ other. absurd (cc)) keeps;
}

-- other answers name none
pub names_none : {X : Type 0} (c : StreamFaults) (result : Result X StreamRefusal) → ¬ IsErrOf result refusal.ReadFault → ¬ IsErrOf result refusal.WriteFault → ¬ IsErrOf result refusal.JournalFault → c.reads_after ≡ c.reads → c.writes_after ≡ c.writes → c.keeps_after ≡ c.keeps → NamesItsFault c result
names_none c result no_read no_write no_keep reads writes keeps = record {
  read = counts_other _ c.reads c.reads_after no_read reads;
  write = counts_other _ c.writes c.writes_after no_write writes;
  keep = counts_other _ c.keeps c.keeps_after no_keep keeps;
}
