-- The last entry's cell is emptied.
use Rattle.std.proofs.Common.{arith}
use Rattle.std.proofs.lemmas.List.{length-take-le}
use Rattle.sat_trail.proofs.StorageLemmas.{IsStored-pop}
use Rattle.sat_trail.proofs.set_literals.Entries.pop.Goals as goal

pub invariant_of-self : goal.invariant_of-self
invariant_of-self c =
    let some = rw (← c.self.view_is) at c.requires in
    rw (c.rank.ensures, c.rank-2.ensures, c.of.ensures, c.of-2.ensures, c.negation.ensures.exact)
    (IsStored-pop _ _ _ _ _ c.self.invariant (omega (arith, length-take-le c.self.inside.len c.self.inside.slots.items c.self.invariant.filled, some)) c.index-last.ensures)
