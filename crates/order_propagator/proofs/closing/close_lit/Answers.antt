-- The two kinds of the literal are closed, if it speaks of two.
use Rattle.std.proofs.Common.{IfSome, subst}
use Rattle.order_axioms.specs.Cycles.{IsPair}
use Rattle.sat_trail.specs.Entry.{values_of}
use Rattle.order_propagator.specs.inner.Closing.{ClosesLit, ClosesPair}
use Rattle.order_propagator.proofs.CloseLemmas.{closes-pair, on-ok-then}
use Rattle.order_propagator.proofs.GrowthLemmas.{Makes-none}
use Rattle.order_propagator.proofs.RowLemmas.{first-all}
use Rattle.order_propagator.proofs.closing.close_lit.Goals as goal

pub returns-in_default-clause-makes : goal.returns-in_default-clause-makes
returns-in_default-clause-makes c = record { makes = Makes-none _ _ c.requires.caught_up.can; first = first-all _ _ _ c.requires.caught_up.all }

pub returns-clause-closed : goal.returns-clause-closed
returns-clause-closed c =
    let order = c.args.numbers.now.order in
    let known = values_of c.args.named.now.trail.entries in
    let now = values_of c.close_pair.new.named.trail.entries in
    let names = c.close_pair.new.named.names in
    on-ok-then c.close_pair.result (ClosesPair order known names now c.in-Some.pair) (ClosesLit order known names now c.args.lit.lit)
    (closes-pair order known now names c.args.lit.lit c.in-Some.pair (subst (λ o. IfSome o (IsPair order c.args.lit.lit)) c.in-Some.is c.requires.pair.some)) c.close_pair.ensures.closed
