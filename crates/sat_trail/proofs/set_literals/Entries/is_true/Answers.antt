-- The value of a literal is that by its variable's entry, and variable 0 has no entry.
use Rattle.std.proofs.Common.{rules}
use Rattle.sat_trail.proofs.StorageLemmas.{value-read}
use Rattle.sat_trail.proofs.set_literals.Entries.is_true.Goals as goal

pub returns : goal.returns
returns c = rw (← c.self.view_is)
    (let is = value-read _ _ _ _ c.args.lit _ _ c.self.invariant (rw (← c.self.view_is) at c.requires) c.rank.ensures c.index.ensures in
    search rules)
