-- The laws of the disk, and those of the images.
use Rattle.durable_store.proofs.CrashLemmas.{crash_restored}
use Rattle.durable_store.proofs.crash.crash_is_restored.Goals as goal

pub returns : goal.returns
returns g c = λ x role keys first calls image answer admitted is on.
    crash_restored g.D.Disk.seen g.D.Disk.may_leave g.D.Disk.clock g.D.Disk.left_since g.D.Disk.counts x role keys c.journals_are_one.ensures c.histories_are_native.ensures admitted image
    (g.met.D.Disk.only_now) (g.met.D.Disk.counts_now) first calls answer is on
