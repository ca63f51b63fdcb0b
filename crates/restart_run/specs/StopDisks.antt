-- Disks that stop, one for each role.
use Rattle.std.specs.Prelude.{◌≡◌, ℕ, List, length, slice_get, slice_index, Some}
use Rattle.agent_scripts.specs.Job.{Job}
use Rattle.role_journal.specs.Stop.{StopState, unstopped}
use Rattle.restart_run.specs.Disks.{bytes_for}

-- each stops at the call of its role's number, and has a place for each event of the role
pub record AreStopDisks (job : Job) (stops : List ℕ) (fill : ℕ) (disks : List StopState)
    : Type 0 where
  pub count : length disks ≡ length stops
  pub each : (role : ℕ) (disk : StopState) → slice_get disks role ≡ Some disk →
      disk ≡ unstopped (bytes_for job role) (slice_index stops role) fill
