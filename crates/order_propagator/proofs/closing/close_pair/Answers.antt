-- With each kind that misses something its clause is made, and with the kinds between nothing is missing.
use Rattle.std.proofs.Common.{inl, inr, ap, arith}
use Rattle.std.proofs.lemmas.Bool.{cases_lt}
use Rattle.order_axioms.specs.declared.order.Order.{Order}
use Rattle.order_propagator.proofs.GrowthLemmas.{Grows-more, Grows-none, Makes-more}
use Rattle.order_propagator.proofs.KeepLemmas.{precedes-grows}
use Rattle.order_propagator.proofs.RowLemmas.{all-of, closes-complete, closes-next, first-all, first-grows, first-of, first-own, holds-said, is-missing, one-way}
use Rattle.order_propagator.proofs.closing.close_pair.Goals as goal

pub loop-kind-init : goal.loop-kind-init
loop-kind-init c = record {
  caught_up = c.requires.caught_up;
  grows = Grows-none _ _;
  from_one = omega arith;
  up_to = omega arith;
  closed = λ z less kinds. absurd (omega (arith, less, kinds.from_one.2));
}

pub next_missing-requires-clause-says : goal.next_missing-requires-clause-says
next_missing-requires-clause-says c = holds-said c.args.numbers.now.order c.loop-kind.rows c.loop-kind.named.trail.entries c.args.pair.first c.args.pair.second c.loop-kind.invariant.caught_up.all c.requires.kinds
    (precedes-grows c.args.numbers.now.order c.args.named.now c.loop-kind.named c.args.pair.first c.args.pair.second c.loop-kind.invariant.grows c.requires.before)

pub next_missing-requires-clause-one_way : goal.next_missing-requires-clause-one_way
next_missing-requires-clause-one_way c = one-way c.args.numbers.now.order c.loop-kind.rows c.loop-kind.named.trail c.args.pair.first c.args.pair.second c.loop-kind.invariant.caught_up.can.trail c.loop-kind.invariant.caught_up.all c.requires.kinds
    (precedes-grows c.args.numbers.now.order c.args.named.now c.loop-kind.named c.args.pair.first c.args.pair.second c.loop-kind.invariant.grows c.requires.before)

pub close_cycle-requires-clause-missing : goal.close_cycle-requires-clause-missing
close_cycle-requires-clause-missing c = is-missing c.args.numbers.now.order c.loop-kind.rows c.loop-kind.named.trail c.args.pair.first c.args.pair.second c.in-Some.kind
    c.loop-kind.invariant.caught_up.can.trail c.loop-kind.invariant.caught_up.all
    (precedes-grows c.args.numbers.now.order c.args.named.now c.loop-kind.named c.args.pair.first c.args.pair.second c.loop-kind.invariant.grows c.requires.before)
    c.in-Some.ensures.some.kinds c.in-Some.ensures.some.missing

pub returns-in_err-close_cycle-clause-makes : goal.returns-in_err-close_cycle-clause-makes
returns-in_err-close_cycle-clause-makes c = record {
  makes = Makes-more _ _ c.loop-kind.named _ (record { can = c.loop-kind.invariant.caught_up.can; grows = c.loop-kind.invariant.grows }) c.close_cycle.ensures.makes;
  first = first-grows c.args.numbers.now.order c.loop-kind.rows c.loop-kind.named c.close_cycle.new.named c.close_cycle.ensures.makes.grows
      (first-all c.args.numbers.now.order c.loop-kind.rows c.loop-kind.named.trail.entries c.loop-kind.invariant.caught_up.all);
}

pub catch_up-requires-clause-first : goal.catch_up-requires-clause-first
catch_up-requires-clause-first c = first-own c.args.numbers.now.order c.loop-kind.rows c.close_cycle.new.named.trail.entries
    (first-grows c.args.numbers.now.order c.loop-kind.rows c.loop-kind.named c.close_cycle.new.named c.close_cycle.ensures.makes.grows
    (first-all c.args.numbers.now.order c.loop-kind.rows c.loop-kind.named.trail.entries c.loop-kind.invariant.caught_up.all))

pub returns-in_err-catch_up-clause-makes : goal.returns-in_err-catch_up-clause-makes
returns-in_err-catch_up-clause-makes c = record {
  makes = Makes-more _ _ c.loop-kind.named _ (record { can = c.loop-kind.invariant.caught_up.can; grows = c.loop-kind.invariant.grows }) c.close_cycle.ensures.makes;
  first = first-of c.args.numbers.now.order c.loop-kind.rows.order c.catch_up.new.rows c.close_cycle.new.named.trail.entries c.loop-kind.invariant.caught_up.all.of_order c.catch_up.ensures.first;
}

pub loop-kind-preserved : goal.loop-kind-preserved
loop-kind-preserved c = record {
  caught_up = record {
    can = c.close_cycle.ensures.makes.can;
    all = all-of c.args.numbers.now.order c.loop-kind.rows.order c.catch_up.new.rows c.close_cycle.new.named.trail.entries c.loop-kind.invariant.caught_up.all.of_order c.in_ok-catch_up.ensures.all;
  };
  grows = Grows-more _ _ c.loop-kind.named _ c.loop-kind.invariant.grows c.close_cycle.ensures.makes.grows;
  from_one = omega arith;
  up_to = omega (arith, c.in-Some.ensures.some.kinds.up_to.2, ap (λ (o : Order). o.kinds) c.loop-kind.invariant.caught_up.all.of_order);
  closed = λ z less kinds.
      closes-next c.args.numbers.now.order c.args.named.now c.loop-kind.named c.close_cycle.new.named c.loop-kind.rows c.args.pair.first c.args.pair.second c.loop-kind.from c.in-Some.kind z
      c.loop-kind.invariant.caught_up.can.trail c.loop-kind.invariant.caught_up.all c.loop-kind.invariant.grows c.close_cycle.ensures.makes.grows c.loop-kind.invariant.closed c.in-Some.ensures.some.passed c.in_ok-close_cycle.ensures.closed less kinds;
}

pub returns-clause-makes : goal.returns-clause-makes
returns-clause-makes c = record {
  makes = record { can = c.loop-kind.invariant.caught_up.can; grows = c.loop-kind.invariant.grows };
  first = first-all c.args.numbers.now.order c.loop-kind.rows c.loop-kind.named.trail.entries c.loop-kind.invariant.caught_up.all;
}

pub returns-clause-closed : goal.returns-clause-closed
returns-clause-closed c = λ z kinds. elim (cases_lt z c.loop-kind.from) [
  | inl under ↦ c.loop-kind.invariant.closed z under kinds
  | inr over ↦ closes-complete c.args.numbers.now.order c.args.named.now c.loop-kind.named c.loop-kind.rows c.args.pair.first c.args.pair.second z
      c.loop-kind.invariant.caught_up.can.trail c.loop-kind.invariant.caught_up.all c.loop-kind.invariant.grows kinds (c.in_default.ensures.none z over)
]
