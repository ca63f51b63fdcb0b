-- The formula's clauses follow those of the order, of which none is made.
use Rattle.std.proofs.Common.{◌+◌, ◌∙◌, ap₂, sym}
use Rattle.std.specs.List.{range_with_len}
use Rattle.order_propagator.proofs.NewLemmas.{IsKept-new, IsStart-whole}
use Rattle.order_propagator.proofs.RestLemmas.{trail-kept}
use Rattle.order_propagator.proofs.RowLemmas.{first-none, first-of}
use Rattle.order_propagator.proofs.trail.OrderTrail.new.Goals as goal

pub invariant_of-result : goal.invariant_of-result
invariant_of-result c = record {
  kept = IsKept-new c.in_ok-numbers.numbers.order c.args.f.now c.in_ok-trail.trail c.in_ok-names.names c.in_ok-places.places c.in_ok-trail.ensures.start c.in_ok-trail.ensures.sound (rw c.in_ok-numbers.ensures c.requires.exist)
      (c.in_ok-names.ensures ∙ ap₂ (λ m n. range_with_len (m + 1) n) c.count-first.ensures c.len-stored.ensures)
      (c.in_ok-places.ensures ∙ ap₂ (λ m n. range_with_len 1 n) c.count-first.ensures c.len-stored.ensures)
      (rw c.in_ok-numbers.ensures c.requires.few);
  first = first-of c.in_ok-numbers.numbers.order c.args.order c.in_ok-rows.rows c.in_ok-trail.trail.entries (sym c.in_ok-numbers.ensures) (first-none c.args.order c.in_ok-rows.rows c.in_ok-trail.trail.entries c.in_ok-rows.ensures);
}

pub returns-clause-start : goal.returns-clause-start
returns-clause-start c = λ whole is.
    IsStart-whole c.in_ok-numbers.numbers.order c.args.f.now whole c.in_ok-trail.trail c.in_ok-names.names c.in_ok-places.places c.in_ok-trail.ensures.start
    (c.in_ok-places.ensures ∙ ap₂ (λ m n. range_with_len 1 n) c.count-first.ensures c.len-stored.ensures) (rw c.in_ok-numbers.ensures is)

pub returns-clause-sound : goal.returns-clause-sound
returns-clause-sound c = trail-kept _ _ _ 0 _ c.clauses_forbid_cycles.ensures
    (IsKept-new c.in_ok-numbers.numbers.order c.args.f.now c.in_ok-trail.trail c.in_ok-names.names c.in_ok-places.places c.in_ok-trail.ensures.start c.in_ok-trail.ensures.sound (rw c.in_ok-numbers.ensures c.requires.exist)
    (c.in_ok-names.ensures ∙ ap₂ (λ m n. range_with_len (m + 1) n) c.count-first.ensures c.len-stored.ensures)
    (c.in_ok-places.ensures ∙ ap₂ (λ m n. range_with_len 1 n) c.count-first.ensures c.len-stored.ensures)
    (rw c.in_ok-numbers.ensures c.requires.few))
