-- When a disk fails that is to stop at a call.
use Rattle.std.specs.Prelude.{◌≡◌, ℕ, ◌+◌, ◌&&◌, Bool, true, false, not, nat_le, nat_lt}
use Rattle.std.specs.Prelude.{if◌then◌else◌, Result, Ok, Err, length}
use Rattle.std.proofs.Common.{refl, ap, ◌∙◌}
use Rattle.std.proofs.lemmas.Bool.{and_right}
use Rattle.bspl_io.specs.declared.sink.Trouble.{Trouble}
use Rattle.bspl_io.specs.declared.sink.Trouble.TheVariants.{Failed, NoMemory}
use Rattle.bspl_io.specs.Faults.{count_after}
use Rattle.role_journal.specs.Counts.{Counts}
use Rattle.role_journal.specs.Crash.{Stays}
use Rattle.role_journal.specs.Recording.{Record, Suits, SuitsSince, blank_record, content_of}

-- the recorded calls; the number of the call at which the disk stops; the byte that a restart puts
-- where nothing was settled; how many calls there were, and how many failed; whether a restart came
-- after a failure, which lifts the stop
pub record StopState : Type 0 where
  pub recording : Record
  pub stop : ℕ
  pub fill : ℕ
  pub made : ℕ
  pub faults : ℕ
  pub lifted : Bool

-- a disk of zeros before its first call
abbrev pub unstopped : ℕ → ℕ → ℕ → StopState
unstopped size stop fill = record {
  recording = blank_record size;
  stop = stop;
  fill = fill;
  made = 0;
  faults = 0;
  lifted = false;
}

-- the next call fails: its number is that of the stop or a later one, and no restart lifted it
abbrev pub is_stopped : StopState → Bool
is_stopped d = not d.lifted && nat_le d.stop (count_after d.made)

-- how often the disk failed: never after the restart that lifted the stop
abbrev pub counts_of : StopState → Counts
counts_of d = record { faults = d.faults; late = 0; restarted = d.lifted && nat_lt 0 d.faults }

-- where no call failed, no restart lifted the stop
pub calm_counts : (d : StopState)
    → (counts_of d).faults ≡ 0 → (counts_of d).restarted ≡ false
calm_counts d none =
    ap (λ (n : ℕ). d.lifted && nat_lt 0 n) none ∙ and_right d.lifted false refl

-- a call was made, and it failed or not
abbrev pub counted : StopState → Bool → StopState
counted d fails = record d {
  made = count_after d.made;
  faults = if fails then d.faults + 1 else d.faults;
}

-- Whether the call fails is known before it, and it is recorded with that. Without memory it is as
-- if there had been no call.
abbrev pub IsStopCall : {T : Type 0} → (Bool → Record) → Result T Trouble → StopState → StopState
    → Type 0
IsStopCall recorded (Ok _) old new =
    (is_stopped old ≡ false) × (new ≡ counted (record old { recording = recorded true }) false)
IsStopCall recorded (Err Failed) old new =
    (is_stopped old ≡ true) × (new ≡ counted (record old { recording = recorded false }) true)
IsStopCall recorded (Err NoMemory) old new = new ≡ old

-- the disk holds what it held
abbrev pub StopStays : StopState → StopState → Type 0
StopStays old new =
    Stays (λ d. (content_of d.recording).seen) (λ d image. Suits d.recording image)
    (λ d. length d.recording.calls) (λ d from image. SuitsSince d.recording from image) old new
