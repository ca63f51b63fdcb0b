-- What users see of a journal in memory that may fail.
use Rattle.std.specs.Prelude.{◌≡◌, ◌⊎◌, ℕ, ◌+◌, Bool, if◌then◌else◌, List, [], ◌++◌, map, Result, Ok, Err}
use Rattle.std.specs.List.{zip}
use Rattle.bspl_io.specs.declared.sink.Trouble.{Trouble}
use Rattle.bspl_io.specs.declared.sink.Trouble.TheVariants.{Failed, NoMemory}
use Rattle.bspl_io.specs.Faults.{count_after}
use Rattle.kept_lines.specs.Text.{AreTextLines}

-- the lines that are kept, the bytes of calls that failed, how many calls are to succeed, and how
-- many failed
pub record KeptLines : Type 0 where
  pub kept : List ℕ
  pub begun : List ℕ
  pub calls : ℕ
  pub faults : ℕ

-- before the first call
abbrev pub unused : ℕ → KeptLines
unused calls = record { kept = []; begun = []; calls = calls; faults = 0 }

-- the call did not fail: these are lines, behind those that were kept
pub record IsKeptCall (old new : KeptLines) (lines : List ℕ) : Type 0 where
  pub lines_are : AreTextLines lines
  pub counted : old.calls ≡ new.calls + 1
  pub after : new ≡ record old { kept = old.kept ++ lines; calls = new.calls }

-- the call failed: no call was to succeed, or the bytes are no lines; each later call fails
pub record IsFailedCall (old new : KeptLines) (lines : List ℕ) : Type 0 where
  pub cause : (old.calls ≡ 0) ⊎ (AreTextLines lines → ⊥)
  pub after : new ≡
      record old { begun = old.begun ++ lines; calls = 0; faults = count_after old.faults }

-- what a call made of the journal
abbrev pub KeepsOrBegins : KeptLines → KeptLines → List ℕ → Result (Unit {0}) Trouble → Type 0
KeepsOrBegins old new lines (Ok _) = IsKeptCall old new lines
KeepsOrBegins old new lines (Err Failed) = IsFailedCall old new lines
KeepsOrBegins old new lines (Err NoMemory) = new ≡ old

-- of each begun byte that `reached` speaks of, the byte if it reached the disk, and else a 0
abbrev pub half_left : List ℕ → List Bool → List ℕ
half_left begun reached =
    map (λ (byte : ℕ × Bool). if byte.1 then byte.0 else 0) (zip begun reached)
