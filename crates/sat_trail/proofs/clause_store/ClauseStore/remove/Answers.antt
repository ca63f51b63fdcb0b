-- The copy of the number is taken back.
use Rattle.std.proofs.Common.{◌-◌, ◌++◌}
use Rattle.sat_trail.proofs.StoreLemmas.{copies-set}
use Rattle.sat_trail.proofs.clause_store.ClauseStore.remove.Goals as goal

pub invariant_of-self : goal.invariant_of-self
invariant_of-self c = rw c.remove.ensures (copies-set c.self.inside.flat (c.self.inside.given.now ++ c.self.inside.added) (c.args.number - 1) c.self.invariant)
