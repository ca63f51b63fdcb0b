-- What users see of a journal in a file: where its text ends, and what was asked of the file.
use Rattle.std.specs.Prelude.{◌≡◌, ◌⊎◌, ℕ, ◌+◌, ◌<◌, max, nat_le, Bool, true, false, if◌then◌else◌, List, length, All, Option, Result, Ok, Err}
use Rattle.bspl_io.specs.declared.sink.Trouble.{Trouble}
use Rattle.bspl_io.specs.declared.sink.Trouble.TheVariants.{Failed, NoMemory}
use Rattle.bspl_io.specs.Faults.{count_after}
use Rattle.kept_lines.specs.FileCalls.{FailsToStore, FileCall, stored}
use Rattle.kept_lines.specs.Text.{AreTextLines}

-- the offsets behind the text and behind the zeros that were written for more of it, and the zeros
-- that are written there at once; whether writes are to be synced, whether a call failed, and how
-- many calls of `keep` did; the calls on the file
pub record FileState : Type 0 where
  pub text_end : ℕ
  pub room_end : ℕ
  pub zeros : List ℕ
  pub syncs : Bool
  pub broken : Bool
  pub faults : ℕ
  pub calls : Option (List FileCall)

-- 8 MiB of zeros
pub record AreRoom (zeros : List ℕ) : Type 0 where
  pub are_zeros : All (λ byte. byte ≡ 0) zeros
  pub are_many : length zeros ≡ 8388608

-- a text of so many bytes, after these calls, which has no room behind it yet
abbrev pub begun_file : Option (List FileCall) → List ℕ → ℕ → Bool → FileState
begun_file calls zeros len syncs = record {
  text_end = len;
  room_end = len;
  zeros = zeros;
  syncs = syncs;
  broken = false;
  faults = 0;
  calls = calls;
}

-- the journal has come to its first call, and its zeros are 8 MiB
pub record IsBegunFile (s : FileState) (calls : Option (List FileCall)) (len : ℕ) (syncs : Bool) :
    Type 0 where
  pub room : AreRoom s.zeros
  pub begun : s ≡ begun_file calls s.zeros len syncs

-- the zeros were written behind the room, and synced if writes are
abbrev pub with_room : FileState → FileState
with_room s = record s {
  room_end = s.room_end + length s.zeros;
  calls = stored s.calls s.syncs s.room_end s.zeros;
}

-- the lines were written behind the text, and synced if writes are
abbrev pub with_lines : FileState → List ℕ → FileState
with_lines s lines = record s {
  text_end = s.text_end + length lines;
  room_end = max s.room_end (s.text_end + length lines);
  calls = stored s.calls s.syncs s.text_end lines;
}

-- the same, over zeros: more of them come first if the lines would not fit
abbrev pub with_lines_over_zeros : FileState → List ℕ → FileState
with_lines_over_zeros s lines =
    if nat_le (s.text_end + length lines) s.room_end then with_lines s lines
    else with_lines (with_room s) lines

-- these are lines, no call failed before, and they are in the file
pub record IsKeptInFile (old new : FileState) (lines : List ℕ) : Type 0 where
  pub lines_are : AreTextLines lines
  pub sound : old.broken ≡ false
  pub after : new ≡ with_lines_over_zeros old lines

-- the zeros behind the room would end past the largest offset, or the lines behind the text would
abbrev pub HasNoOffset : FileState → List ℕ → Type 0
HasNoOffset s lines =
    (18446744073709551615 < s.room_end + length s.zeros) ⊎
    (18446744073709551615 < s.text_end + length lines)

-- nothing is asked of the file: a call failed before, these are no lines, or there is no offset
abbrev pub IsUnasked : FileState → List ℕ → Type 0
IsUnasked s lines = (s.broken ≡ true) ⊎ (AreTextLines lines → ⊥) ⊎ HasNoOffset s lines

-- the zeros behind the room failed
abbrev pub FailsAtRoom : FileState → FileState → Type 0
FailsAtRoom old new = FailsToStore old.calls new.calls old.room_end old.zeros

-- the lines behind the text failed, before or after more zeros
abbrev pub FailsAtLines : FileState → FileState → List ℕ → Type 0
FailsAtLines old new lines =
    FailsToStore old.calls new.calls old.text_end lines ⊎
    FailsToStore (with_room old).calls new.calls old.text_end lines

-- the text ends where it did, nothing was asked of the file or the call that failed was the last
-- one on it, and each later call fails; after an earlier failure, and for what is no lines, nothing
-- was asked
pub record IsFileFault (old new : FileState) (lines : List ℕ) : Type 0 where
  pub text_stays : new.text_end ≡ old.text_end
  pub last : (IsUnasked old lines × (new.calls ≡ old.calls)) ⊎
      (FailsAtRoom old new ⊎ FailsAtLines old new lines)
  pub broken : new.broken ≡ true
  pub counted : new.faults ≡ count_after old.faults
  pub no_lines : (AreTextLines lines → ⊥) → new.calls ≡ old.calls
  pub silent : old.broken ≡ true → new ≡ record old { faults = count_after old.faults }

-- what a call made of the journal; it takes no memory
abbrev pub KeepsInFile : FileState → FileState → List ℕ → Result (Unit {0}) Trouble → Type 0
KeepsInFile old new lines (Ok _) = IsKeptInFile old new lines
KeepsInFile old new lines (Err Failed) = IsFileFault old new lines
KeepsInFile old new lines (Err NoMemory) = ⊥
