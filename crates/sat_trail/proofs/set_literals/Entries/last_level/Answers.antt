-- The last slot that is used has the last entry.
use Rattle.std.proofs.Common.{arith}
use Rattle.sat_trail.proofs.StorageLemmas.{last_level-stored}
use Rattle.sat_trail.proofs.set_literals.Entries.last_level.Goals as goal

pub returns : goal.returns
returns c = rw (← c.self.view_is)
    (last_level-stored _ _ c.index.result.now (omega arith) c.self.invariant.filled c.index.ensures)
