-- The clause has the next name, and its name the next place.
use Rattle.std.proofs.Common.{◌≡◌, ◌+◌, ◌^◌, ◌<◌, length, arith}
use Rattle.order_axioms.specs.Order.{order_list}
use Rattle.order_propagator.proofs.AddLemmas.{adds-whole, popped, two-unnamed}
use Rattle.order_propagator.proofs.NumberLemmas.{whole-length}
use Rattle.order_propagator.proofs.RestLemmas.{IsKept-add, trail-kept}
use Rattle.order_propagator.proofs.RowLemmas.{rows-add}
use Rattle.order_propagator.proofs.trail.OrderTrail.add.Goals as goal

pub returns-in_err-number-clause-sound : goal.returns-in_err-number-clause-sound
returns-in_err-number-clause-sound c = rw (← c.self.view_is) (trail-kept _ _ _ c.self.inside.head _ c.clauses_forbid_cycles.ensures c.self.invariant.kept)

pub returns-in_err-push-clause-sound : goal.returns-in_err-push-clause-sound
returns-in_err-push-clause-sound c = rw c.in_err-push.ensures.err (trail-kept _ _ _ c.self.inside.head _ c.clauses_forbid_cycles.ensures c.self.invariant.kept)

pub add-requires-clause-open : goal.add-requires-clause-open
add-requires-clause-open c = two-unnamed c.self.inside.named.names c.self.inside.named.trail.entries c.self.inside.named.trail.level c.args.c (rw (← c.self.view_is) at c.requires.open)

pub invariant_of-self-in-Ok : goal.invariant_of-self-in-Ok
invariant_of-self-in-Ok c =
    let order = c.self.inside.numbers.order in
    let name = c.last_number-name.result + 1 in
    let name_is : name ≡ length (order_list order) + length c.self.inside.places + 1 = omega (arith, rw (← c.self.view_is) at c.last_number-name.ensures, whole-length order c.self.inside.named.trail.clauses c.self.inside.places) in
    let few : name < 2 ^ 32 = omega (arith, c.requires.few, c.last_number-name.ensures) in
    record {
      kept = IsKept-add order c.self.inside.named c.add.new.self c.self.inside.places c.push.new.self c.args.c name c.in_ok-number.number c.self.inside.head c.self.inside.ready
          c.self.invariant.kept c.in-Ok.ensures.ok c.add.ensures.sound name_is c.in_ok-number.ensures few c.in_ok-push.ensures.ok;
      first = rows-add order c.self.inside.rows c.self.inside.named c.add.new.self c.args.c name c.in-Ok.ensures.ok c.self.invariant.first;
    }

pub returns-in-Ok-clause-ok : goal.returns-in-Ok-clause-ok
returns-in-Ok-clause-ok c =
    let order = c.self.inside.numbers.order in
    let name = c.last_number-name.result + 1 in
    let name_is : name ≡ length (order_list order) + length c.self.inside.places + 1 = omega (arith, rw (← c.self.view_is) at c.last_number-name.ensures, whole-length order c.self.inside.named.trail.clauses c.self.inside.places) in
    rw (← c.self.view_is, c.in_ok-push.ensures.ok)
    (adds-whole order c.self.inside.named c.add.new.self c.self.inside.places c.args.c name c.in_ok-number.number c.self.inside.ready
    c.self.invariant.kept.can_make c.self.invariant.kept.placed c.in-Ok.ensures.ok name_is c.in_ok-number.ensures)

pub returns-in-Ok-clause-sound : goal.returns-in-Ok-clause-sound
returns-in-Ok-clause-sound c =
    let order = c.self.inside.numbers.order in
    let name = c.last_number-name.result + 1 in
    let name_is : name ≡ length (order_list order) + length c.self.inside.places + 1 = omega (arith, rw (← c.self.view_is) at c.last_number-name.ensures, whole-length order c.self.inside.named.trail.clauses c.self.inside.places) in
    let few : name < 2 ^ 32 = omega (arith, c.requires.few, c.last_number-name.ensures) in
    trail-kept order c.add.new.self c.push.new.self c.self.inside.head _ c.clauses_forbid_cycles.ensures
    (IsKept-add order c.self.inside.named c.add.new.self c.self.inside.places c.push.new.self c.args.c name c.in_ok-number.number c.self.inside.head c.self.inside.ready
    c.self.invariant.kept c.in-Ok.ensures.ok c.add.ensures.sound name_is c.in_ok-number.ensures few c.in_ok-push.ensures.ok)

pub returns-in-Err-clause-sound : goal.returns-in-Err-clause-sound
returns-in-Err-clause-sound c =
    let places = popped c.self.inside.places c.push.new.self c.pop-place.new.self c.in_ok-number.number c.pop-place.result c.in_ok-push.ensures.ok c.pop-place.ensures.last c.pop-place.ensures.empty in
    rw (c.in-Err.ensures.err, places) (trail-kept _ _ _ c.self.inside.head _ c.clauses_forbid_cycles.ensures c.self.invariant.kept)
