-- The clause is that of its place.
use Rattle.std.proofs.Common.{IsSome, sym, subst, arith, Some, ◌∙◌, ap}
use Rattle.order_propagator.proofs.NumberLemmas.{has-place}
use Rattle.order_propagator.proofs.trail.OrderTrail.clause.Goals as goal

pub clause-requires-2 : goal.clause-requires-2
clause-requires-2 c =
    subst IsSome (has-place c.self.inside.numbers.order c.self.inside.named.trail.clauses c.self.inside.places c.args.number c.at-place.result.now (omega (arith, c.count-first.ensures, c.if-number-first.false)) (rw c.count-first.ensures at c.at-place.ensures))
    (rw (← c.self.view_is) at c.requires)

pub returns : goal.returns
returns c =
    rw (← c.self.view_is) (record {
      there = has-place c.self.inside.numbers.order c.self.inside.named.trail.clauses c.self.inside.places c.args.number c.at-place.result.now (omega (arith, c.count-first.ensures, c.if-number-first.false)) (rw c.count-first.ensures at c.at-place.ensures)
          ∙ c.clause-2.ensures.there ∙ ap Some (sym c.stored.ensures);
    })
