-- A reason is the number of a clause, and is given by its name.
use Rattle.std.proofs.Common.{option_map, sym, ap, ◌∙◌}
use Rattle.order_propagator.specs.inner.Names.{name_of}
use Rattle.order_propagator.proofs.EntryLemmas.{reason_of-renamed}
use Rattle.order_propagator.proofs.ViewLemmas.{reason-number, reason-whole}
use Rattle.order_propagator.proofs.trail.OrderTrail.reason.Goals as goal

pub name-requires-clause-from_one : goal.name-requires-clause-from_one
name-requires-clause-from_one c = (reason-number _ c.self.inside.named c.args.var c.in-Some.number c.self.invariant.kept.can_make (sym c.reason.ensures ∙ c.in-Some.is)).0

pub name-requires-clause-within : goal.name-requires-clause-within
name-requires-clause-within c = (reason-number _ c.self.inside.named c.args.var c.in-Some.number c.self.invariant.kept.can_make (sym c.reason.ensures ∙ c.in-Some.is)).1

pub returns-in-Some : goal.returns-in-Some
returns-in-Some c = rw (← c.self.view_is) (reason-whole c.self.inside.numbers.order c.self.inside.named c.args.var c.in-Some.number c.name.result (sym c.reason.ensures ∙ c.in-Some.is) c.name.ensures)

pub returns-in-None : goal.returns-in-None
returns-in-None c = rw (← c.self.view_is)
    (sym (reason_of-renamed c.self.inside.named.names c.self.inside.named.trail.entries c.args.var ∙ ap (option_map (name_of c.self.inside.named.names)) (sym c.reason.ensures ∙ c.in-None.is)))
