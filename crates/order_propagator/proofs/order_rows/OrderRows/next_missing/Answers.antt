-- The lowest bit of what is missing is that of the next kind.
use Rattle.order_propagator.proofs.OrderRowLemmas.{state}
use Rattle.order_propagator.proofs.BitRowLemmas.{next-missing, none-from}
use Rattle.order_propagator.proofs.order_rows.OrderRows.next_missing.Goals as goal

pub returns-in-Some-clause-some : goal.returns-in-Some-clause-some
returns-in-Some-clause-some c =
    rw (← c.self.view_is) (next-missing (state c.self.inside.pairs c.self.inside.lits.items) c.self.inside.rows c.args.x c.args.y c.args.from c.missing.result c.in-Some.place
    c.self.invariant.told (record { bits = c.missing.ensures }) (rw (← c.self.view_is) at c.requires.says) (rw (← c.self.view_is) at c.requires.one_way) c.requires.from_one c.in-Some.ensures.some)

pub returns-in-None-clause-none : goal.returns-in-None-clause-none
returns-in-None-clause-none c =
    rw (← c.self.view_is) (none-from (state c.self.inside.pairs c.self.inside.lits.items) c.self.inside.rows c.args.x c.args.y c.args.from c.missing.result
    c.self.invariant.told (record { bits = c.missing.ensures }) (rw (← c.self.view_is) at c.requires.says) c.requires.from_one c.in-None.ensures.none)
