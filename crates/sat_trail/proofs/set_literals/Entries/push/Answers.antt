-- The new entry comes after the others, and its cell was empty.
use Rattle.std.proofs.Common.{arith}
use Rattle.sat_trail.proofs.StorageLemmas.{slot_within, IsStored-push, assigned_after-push}
use Rattle.sat_trail.proofs.set_literals.Entries.push.Goals as goal

pub index_mut-requires : goal.index_mut-requires
index_mut-requires c =
    let exists = rw (← c.self.view_is) at c.requires.exists.within in
    let none = rw (← c.self.view_is) at c.requires.no_value in
    let within = slot_within _ _ _ _ c.args.entry.lit.var c.self.invariant c.requires.exists.from_one exists none in
    omega (arith, within)

pub invariant_of-self : goal.invariant_of-self
invariant_of-self c =
    rw (c.rank.ensures, c.rank-2.ensures, c.of.ensures, c.of-2.ensures, c.negation.ensures.exact)
    (IsStored-push _ _ _ _ _ c.self.invariant c.requires.exists.from_one (rw (← c.self.view_is) at c.requires.exists.within) (rw (← c.self.view_is) at c.requires.no_value))

pub returns : goal.returns
returns c = rw (← c.self.view_is)
    (assigned_after-push _ _ _ _ _ _
    (slot_within _ _ _ _ c.args.entry.lit.var c.self.invariant c.requires.exists.from_one (rw (← c.self.view_is) at c.requires.exists.within) (rw (← c.self.view_is) at c.requires.no_value)))
