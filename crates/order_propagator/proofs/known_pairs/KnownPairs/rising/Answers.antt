-- What is in a cell is the pair of its variable.
use Rattle.std.proofs.Common.{◌≡◌, ℕ, ◌+◌, ◌-◌, ◌<◌, length, sym, arith}
use Rattle.order_propagator.proofs.PairLemmas.{pair-known}
use Rattle.order_propagator.proofs.known_pairs.KnownPairs.rising.Goals as goal

pub returns-clause-some : goal.returns-clause-some
returns-clause-some c =
    let index : ℕ = c.args.var - c.self.inside.order.base - 1 in
    let within : index < length c.self.inside.cells.items = omega (arith, c.if-index-len.false, c.len.ensures) in
    let is : c.self.inside.order.base + index + 1 ≡ c.args.var = omega (arith, c.if-var-self.false) in
    rw (← c.self.view_is) (pair-known c.self.inside.order c.self.inside.cells.items index c.args.var c.index.result.now c.index.result.now c.self.invariant within is (sym c.index.ensures))
