-- The position that was read has the literal, or it is not in.
use Rattle.std.proofs.Common.{◌≡◌, ◌↔◌, IsTrue, arith, rules}
use Rattle.sat_solver.proofs.StoredSetLemmas.{position-within, has-at}
use Rattle.sat_solver.proofs.lit_set.LitSet.has.Goals as goal

pub index-requires-2 : goal.index-requires-2
index-requires-2 c =
    let exists = rw (← c.self.view_is) at c.requires.exists in
    let within = position-within _ _ _ c.args.lit c.index.result.now c.self.invariant c.requires.from_one exists c.index.ensures c.if-position-eq0.false in
    omega (arith, within, c.self.invariant.filled)

pub returns : goal.returns
returns c =
    let exists = rw (← c.self.view_is) at c.requires.exists in
    let at = has-at _ _ _ c.args.lit c.index-2.result.now c.index.result.now c.self.invariant c.requires.from_one exists c.index.ensures c.if-position-eq0.false c.index-2.ensures in
    let test : IsTrue c.eq.result ↔ (c.index-2.result.now ≡ c.args.lit) = search rules in
    rw (← c.self.view_is) ((λ equal. at.0 (test.0 equal)), (λ among. test.1 (at.1 among)))
