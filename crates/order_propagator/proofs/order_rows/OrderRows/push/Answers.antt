-- The literal comes last, and its bits with it.
use Rattle.order_propagator.proofs.OrderRowLemmas.{kept-push}
use Rattle.order_propagator.proofs.order_rows.OrderRows.push.Goals as goal

pub invariant_of-self-2 : goal.invariant_of-self-2
invariant_of-self-2 c =
    rw c.in_ok-push.ensures.items
    (kept-push c.self.inside.pairs c.self.inside.lits.items (record { lit = c.args.lit; pair = c.pair-pair.result }) c.self.inside.rows c.put.new.self c.self.invariant
    (rw (← c.self.view_is) at c.requires) (record { some = c.pair-pair.ensures.some; none = c.pair-pair.ensures.none }) c.put.ensures.some c.put.ensures.none)
