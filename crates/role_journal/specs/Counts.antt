-- How often a disk failed.
use Rattle.std.specs.Prelude.{◌≡◌, ℕ, ◌+◌, ◌≤◌, ◌||◌, Bool, false, nat_lt, if◌then◌else◌}
use Rattle.std.specs.Prelude.{Result, Ok, Err}
use Rattle.bspl_io.specs.declared.sink.Trouble.{Trouble}
use Rattle.bspl_io.specs.declared.sink.Trouble.TheVariants.{Failed, NoMemory}

-- how many calls failed; how many of them after a restart that came after a failure; whether there
-- was such a restart
pub record Counts : Type 0 where
  pub faults : ℕ
  pub late : ℕ
  pub restarted : Bool

-- no call failed
abbrev pub no_faults : Counts
no_faults = record { faults = 0; late = 0; restarted = false }

-- one more call failed
abbrev pub after_fault : Counts → Counts
after_fault c = record c {
  faults = c.faults + 1;
  late = if c.restarted then c.late + 1 else c.late;
}

-- the disk was restarted
abbrev pub after_restart : Counts → Counts
after_restart c = record c { restarted = c.restarted || nat_lt 0 c.faults }

-- a failure is counted, and nothing else is; what runs out of memory changes nothing
abbrev pub HasOutcome : {D T : Type 0} → (D → Counts) → Result T Trouble → D → D → Type 0
HasOutcome counts (Ok _) old new = counts new ≡ counts old
HasOutcome counts (Err Failed) old new = counts new ≡ after_fault (counts old)
HasOutcome counts (Err NoMemory) old new = new ≡ old

-- a row of calls that takes at most so many ticks, of which the last one may have failed
pub record Costs {D : Type 0} (clock : D → ℕ) (counts : D → Counts) (most : ℕ) (failed : Type 0)
    (old new : D) : Type 0 where
  pub calls : clock new ≤ clock old + most
  pub counted : failed → counts new ≡ after_fault (counts old)
  pub still : ¬ failed → counts new ≡ counts old
