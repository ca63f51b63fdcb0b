-- The literal at the head is closed, and with it the order under one entry more.
use Rattle.std.proofs.Common.{◌≡◌, ◌+◌, slice_get, Some, length, ap, subst, ◌∙◌, arith}
use Rattle.std.proofs.lemmas.List.{length-map}
use Rattle.sat_trail.specs.declared.entry.Entry.{Entry}
use Rattle.sat_trail.specs.Entry.{values_of}
use Rattle.order_propagator.specs.inner.Closing.{ClosesLit, IsClosedUpTo}
use Rattle.order_propagator.specs.inner.OrderRows.{HasPair}
use Rattle.order_propagator.proofs.CloseLemmas.{closed-next, lit-holds, on-ok-then}
use Rattle.order_propagator.proofs.GrowthLemmas.{Grows-longer, Grows-more, Grows-propagates, Makes-propagates}
use Rattle.order_propagator.proofs.KeepLemmas.{closed-grows}
use Rattle.order_propagator.proofs.RowLemmas.{all-of, closing-grows, first-grows, first-of, first-own}
use Rattle.order_propagator.proofs.closing.close_head.Goals as goal

pub returns-in_err-propagate_next-clause-closing : goal.returns-in_err-propagate_next-clause-closing
returns-in_err-propagate_next-clause-closing c = closing-grows _ _ c.args.named.now c.propagate_next.new.self c.args.head
    (Makes-propagates _ c.args.named.now c.propagate_next.new.self c.requires.closing.can c.propagate_next.ensures.propagates c.propagate_next.ensures.names c.propagate_next.ensures.sound) c.requires.closing

pub catch_up-requires-clause-first : goal.catch_up-requires-clause-first
catch_up-requires-clause-first c = first-own c.args.numbers.now.order c.args.rows.now _
    (first-grows c.args.numbers.now.order _ c.args.named.now c.propagate_next.new.self (Grows-propagates c.args.numbers.now.order c.args.named.now c.propagate_next.new.self c.propagate_next.ensures.propagates c.propagate_next.ensures.names) c.requires.closing.first)

pub returns-in_err-catch_up-clause-closing : goal.returns-in_err-catch_up-clause-closing
returns-in_err-catch_up-clause-closing c = record {
  can = (Makes-propagates _ c.args.named.now c.propagate_next.new.self c.requires.closing.can c.propagate_next.ensures.propagates c.propagate_next.ensures.names c.propagate_next.ensures.sound).can;
  closed = closed-grows _ c.args.named.now c.propagate_next.new.self c.args.head (Grows-propagates c.args.numbers.now.order c.args.named.now c.propagate_next.new.self c.propagate_next.ensures.propagates c.propagate_next.ensures.names) c.requires.closing.closed;
  first = first-of _ _ c.catch_up.new.rows _ c.requires.closing.first.of_order c.catch_up.ensures.first;
}

pub returns-in_err-catch_up-clause-grows : goal.returns-in_err-catch_up-clause-grows
returns-in_err-catch_up-clause-grows c = Grows-propagates c.args.numbers.now.order c.args.named.now c.propagate_next.new.self c.propagate_next.ensures.propagates c.propagate_next.ensures.names

pub at-lit-requires : goal.at-lit-requires
at-lit-requires c = omega (
  arith,
  c.requires.some,
  ap length c.in_ok-catch_up.ensures.all.all,
  length-map c.propagate_next.new.self.trail.entries (λ (e : Entry). e.lit),
  Grows-longer _ c.args.named.now c.propagate_next.new.self (Grows-propagates c.args.numbers.now.order c.args.named.now c.propagate_next.new.self c.propagate_next.ensures.propagates c.propagate_next.ensures.names),
)

pub close_lit-requires-clause-caught_up : goal.close_lit-requires-clause-caught_up
close_lit-requires-clause-caught_up c = record {
  can = (Makes-propagates _ c.args.named.now c.propagate_next.new.self c.requires.closing.can c.propagate_next.ensures.propagates c.propagate_next.ensures.names c.propagate_next.ensures.sound).can;
  all = all-of _ _ c.catch_up.new.rows _ c.requires.closing.first.of_order c.in_ok-catch_up.ensures.all;
}

pub close_lit-requires-clause-pair : goal.close_lit-requires-clause-pair
close_lit-requires-clause-pair c = subst (λ o. HasPair o c.at-lit.result) (c.in_ok-catch_up.ensures.all.of_order ∙ c.requires.closing.first.of_order) c.at-lit.ensures.pair

pub close_lit-requires-clause-holds : goal.close_lit-requires-clause-holds
close_lit-requires-clause-holds c = lit-holds c.propagate_next.new.self.trail.entries c.args.head c.at-lit.result.lit c.propagate_next.ensures.sound.levels.once
    (subst (λ ls. slice_get ls c.args.head ≡ Some c.at-lit.result.lit) c.in_ok-catch_up.ensures.all.all c.at-lit.ensures.there)

pub returns-clause-closing : goal.returns-clause-closing
returns-clause-closing c = record {
  can = c.close_lit.ensures.makes.makes.can;
  closed = closed-grows _ c.args.named.now c.close_lit.new.named c.args.head
      (Grows-more _ _ c.propagate_next.new.self _ (Grows-propagates c.args.numbers.now.order c.args.named.now c.propagate_next.new.self c.propagate_next.ensures.propagates c.propagate_next.ensures.names) c.close_lit.ensures.makes.makes.grows) c.requires.closing.closed;
  first = c.close_lit.ensures.makes.first;
}

pub returns-clause-grows : goal.returns-clause-grows
returns-clause-grows c = Grows-more _ _ c.propagate_next.new.self _ (Grows-propagates c.args.numbers.now.order c.args.named.now c.propagate_next.new.self c.propagate_next.ensures.propagates c.propagate_next.ensures.names) c.close_lit.ensures.makes.makes.grows

pub returns-clause-next : goal.returns-clause-next
returns-clause-next c =
    let order = c.args.numbers.now.order in
    let before = c.propagate_next.new.self in
    let after = c.close_lit.new.named in
    on-ok-then c.close_lit.result (ClosesLit order (values_of before.trail.entries) after.names (values_of after.trail.entries) c.at-lit.result.lit) (IsClosedUpTo order after (c.args.head + 1))
    (λ closes. closed-next order before after c.args.head c.at-lit.result.lit
    (closed-grows order c.args.named.now before c.args.head (Grows-propagates c.args.numbers.now.order c.args.named.now c.propagate_next.new.self c.propagate_next.ensures.propagates c.propagate_next.ensures.names) c.requires.closing.closed)
    (omega (arith, c.requires.some, Grows-longer order c.args.named.now before (Grows-propagates c.args.numbers.now.order c.args.named.now c.propagate_next.new.self c.propagate_next.ensures.propagates c.propagate_next.ensures.names)))
    (subst (λ ls. slice_get ls c.args.head ≡ Some c.at-lit.result.lit) c.in_ok-catch_up.ensures.all.all c.at-lit.ensures.there)
    c.close_lit.ensures.makes.makes.grows closes) c.close_lit.ensures.closed
