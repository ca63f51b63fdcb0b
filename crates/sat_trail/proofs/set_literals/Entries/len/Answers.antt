-- A free variable leaves room.
use Rattle.sat_trail.proofs.StorageLemmas.{HasRoom-stored}
use Rattle.sat_trail.proofs.set_literals.Entries.len.Goals as goal

pub returns-clause-room : goal.returns-clause-room
returns-clause-room c = rw (← c.self.view_is) (HasRoom-stored _ _ _ _ c.self.invariant)
