-- The last literal has the position of the one that went.
use Rattle.sat_solver.proofs.StoredSetLemmas.{IsStoredSet-taken, TakesOut-stored, IsLiteralSet-stored}
use Rattle.sat_solver.proofs.lit_set.LitSet.remove.Goals as goal

pub invariant_of-self : goal.invariant_of-self
invariant_of-self c =
    IsStoredSet-taken _ _ _ c.args.lit _ _ c.self.invariant (rw (← c.self.view_is) at c.requires) c.index-position.ensures c.index-last.ensures

pub returns-clause-taken : goal.returns-clause-taken
returns-clause-taken c = rw (← c.self.view_is)
    (TakesOut-stored _ _ _ c.args.lit _ _ c.self.invariant (rw (← c.self.view_is) at c.requires) c.index-position.ensures c.index-last.ensures)

pub returns-clause-set : goal.returns-clause-set
returns-clause-set c =
    IsLiteralSet-stored _ _ _
    (IsStoredSet-taken _ _ _ c.args.lit _ _ c.self.invariant (rw (← c.self.view_is) at c.requires) c.index-position.ensures c.index-last.ensures)
