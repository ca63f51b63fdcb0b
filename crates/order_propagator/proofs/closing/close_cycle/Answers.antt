-- The clause that forbids the cycle is made, and closes it.
use Rattle.sat_trail.specs.Entry.{values_of}
use Rattle.order_propagator.proofs.ClosedLemmas.{made_closes}
use Rattle.order_propagator.proofs.CloseLemmas.{may-be-made, on-ok}
use Rattle.order_propagator.proofs.GrowthLemmas.{Grows-propagates, Makes-more, Makes-propagates}
use Rattle.order_propagator.proofs.KeepLemmas.{closes-grows}
use Rattle.order_propagator.proofs.closing.close_cycle.Goals as goal

pub make-requires-clause-may : goal.make-requires-clause-may
make-requires-clause-may c = may-be-made _ c.args.named.now c.args.x c.args.y c.args.z c.number-number.result c.clauses_forbid_cycles.ensures c.requires.can c.number-number.ensures c.requires.missing

pub returns-clause-makes : goal.returns-clause-makes
returns-clause-makes c = Makes-more _ _ c.make.new.self _ c.in_ok-make.ensures.makes
    (Makes-propagates _ c.make.new.self c.propagate_next.new.self c.in_ok-make.ensures.makes.can c.propagate_next.ensures.propagates c.propagate_next.ensures.names c.propagate_next.ensures.sound)

pub returns-clause-closed : goal.returns-clause-closed
returns-clause-closed c =
    let known = values_of c.args.named.now.trail.entries in
    on-ok c.propagate_next.result _
    (closes-grows c.args.numbers.now.order known c.make.new.self c.propagate_next.new.self c.args.x c.args.y c.args.z
    (Grows-propagates _ c.make.new.self c.propagate_next.new.self c.propagate_next.ensures.propagates c.propagate_next.ensures.names)
    (made_closes c.args.numbers.now.order c.make.new.self.names known (values_of c.make.new.self.trail.entries) c.args.x c.args.y c.args.z c.number-number.result c.in_ok-make.ensures.made c.number-number.ensures))
