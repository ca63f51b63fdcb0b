-- The new literal comes after the others, and its cell was empty.
use Rattle.std.proofs.Common.{arith}
use Rattle.std.proofs.lemmas.Bool.{iff_false}
use Rattle.sat_solver.proofs.CellLemmas.{empty-cell}
use Rattle.sat_solver.proofs.StoredSetLemmas.{slot_within, IsStoredSet-push, IsLiteralSet-stored, set_after-push}
use Rattle.sat_solver.proofs.lit_set.LitSet.insert.Goals as goal

pub index_mut-requires : goal.index_mut-requires
index_mut-requires c =
    let exists = rw (← c.self.view_is) at c.requires.exists in
    let none = rw (← c.self.view_is) at (iff_false c.has.ensures c.if-has.false) in
    let alone = rw (← c.self.view_is) at c.requires.alone in
    let empty = empty-cell _ _ c.args.lit c.self.invariant.finds c.requires.from_one none alone in
    let within = slot_within _ _ _ c.args.lit c.self.invariant c.requires.from_one exists empty in
    omega (arith, within)

pub overflow_cast-self-inside : goal.overflow_cast-self-inside
overflow_cast-self-inside c =
    let exists = rw (← c.self.view_is) at c.requires.exists in
    let none = rw (← c.self.view_is) at (iff_false c.has.ensures c.if-has.false) in
    let alone = rw (← c.self.view_is) at c.requires.alone in
    let empty = empty-cell _ _ c.args.lit c.self.invariant.finds c.requires.from_one none alone in
    let within = slot_within _ _ _ c.args.lit c.self.invariant c.requires.from_one exists empty in
    omega (arith, within, c.self.invariant.room, c.self.invariant.few)

pub invariant_of-self : goal.invariant_of-self
invariant_of-self c =
    let exists = rw (← c.self.view_is) at c.requires.exists in
    let none = rw (← c.self.view_is) at (iff_false c.has.ensures c.if-has.false) in
    let alone = rw (← c.self.view_is) at c.requires.alone in
    IsStoredSet-push _ _ _ c.args.lit c.self.invariant c.requires.from_one exists
    (empty-cell _ _ c.args.lit c.self.invariant.finds c.requires.from_one none alone)

pub returns-clause-pushed : goal.returns-clause-pushed
returns-clause-pushed c =
    let exists = rw (← c.self.view_is) at c.requires.exists in
    let none = rw (← c.self.view_is) at (iff_false c.has.ensures c.if-has.false) in
    let alone = rw (← c.self.view_is) at c.requires.alone in
    let empty = empty-cell _ _ c.args.lit c.self.invariant.finds c.requires.from_one none alone in
    rw (← c.self.view_is) (set_after-push _ _ _ c.args.lit _ _ (slot_within _ _ _ c.args.lit c.self.invariant c.requires.from_one exists empty))

pub returns-clause-set : goal.returns-clause-set
returns-clause-set c =
    let exists = rw (← c.self.view_is) at c.requires.exists in
    let none = rw (← c.self.view_is) at (iff_false c.has.ensures c.if-has.false) in
    let alone = rw (← c.self.view_is) at c.requires.alone in
    let empty = empty-cell _ _ c.args.lit c.self.invariant.finds c.requires.from_one none alone in
    IsLiteralSet-stored _ _ _ (IsStoredSet-push _ _ _ c.args.lit c.self.invariant c.requires.from_one exists empty)
