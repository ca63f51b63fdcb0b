-- A number is one of the order's, or has a place.
use Rattle.std.proofs.Common.{◌↔◌, IsTrue, IsSome, sym, subst, arith}
use Rattle.order_propagator.proofs.NumberLemmas.{has-order, has-place}
use Rattle.order_propagator.proofs.trail.OrderTrail.has_clause.Goals as goal

pub returns-then-number-first : goal.returns-then-number-first
returns-then-number-first c = rw (← c.self.view_is)
    (has-order c.self.inside.numbers.order c.self.inside.named.trail.clauses c.self.inside.places c.args.number (omega (arith, c.count-first.ensures, c.if-number-first.true)))

pub returns : goal.returns
returns c = rw (← c.self.view_is)
    (subst (λ o. IsTrue c.has_clause.result ↔ IsSome o)
    (sym (has-place c.self.inside.numbers.order c.self.inside.named.trail.clauses c.self.inside.places c.args.number c.at.result.now (omega (arith, c.count-first.ensures, c.if-number-first.false)) (rw c.count-first.ensures at c.at.ensures)))
    c.has_clause.ensures)
