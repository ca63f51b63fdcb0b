-- The world and the number are those of what was played; a disk that stops never fails after a restart.
use Rattle.std.proofs.Common.{List, ℕ}
use Rattle.role_journal.specs.Recording.{Suits}
use Rattle.role_journal.specs.Stop.{StopState, counts_of}
use Rattle.agent_commands.proofs.RestartAnswers.{played_over}
use Rattle.agent_commands.proofs.restart_disks.without_disks.Goals as goal

pub returns-in-Ok : goal.returns-in-Ok
returns-in-Ok c =
    let ok = rw c.in-Ok.is at c.requires.ok in
    played_over (λ (d : StopState) (image : List ℕ). Suits d.recording image) counts_of c.args._job.now c.in-Ok.field-0.world c.in-Ok.field-0.restarts c.in-Ok.field-0.disks ok
