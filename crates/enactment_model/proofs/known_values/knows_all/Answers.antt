-- A parameter with a value takes the next one, and another none.
use Rattle.std.proofs.Common.{◌+◌, List, drop, get_or, sym, ap, subst}
use Rattle.std.specs.List.{zip}
use Rattle.std.proofs.lemmas.Bool.{iff_false}
use Rattle.bspl_types.specs.declared.protocol.Adornment.TheVariants.{In}
use Rattle.bspl_types.specs.declared.value.Value.{Value}
use Rattle.bspl_types.specs.Adornment.{valued}
use Rattle.bspl_types.specs.History.{history_of}
use Rattle.enactment_model.specs.inner.Carrying.{IsKnownPair}
use Rattle.enactment_model.proofs.CarryingLemmas.{known_by_some, leaves_bare, leaves_pair, leaves_rest, LeavesPairs, unknown_found}
use Rattle.enactment_model.proofs.known_values.knows_all.Goals as goal
use Rattle.enactment_model.proofs.known_values.knows_all.Goals.{then-has_value+in-Some+else-is_in, else-has_value, else-is_in-via-then-is_in+else-not-is_revealed, else-is_in-via-else-is_in}

pub returns-then-not-is_revealed : goal.returns-then-not-is_revealed
returns-then-not-is_revealed c =
    let x = c.args.x.now in
    let h = history_of x c.args.role c.args.events.now in
    let known = IsKnownPair x h c.args.key.now c.args.param in
    let carried = c.args.carried.now in
    let k = c.loop-c.c-index in
    let v = c.in-Some.value.now in
    let pairs = zip (valued carried) c.args.values.now in
    let by_some = known_by_some x c.args.events.now c.args.role c.args.key.now c.args.param v in
    unknown_found x h c.args.key.now c.args.param _ v (zip (valued (drop (k + 1) carried)) c.in-Some.rest.now) pairs
    (leaves_pair known carried k (record { param = 0; adornment = In }) v c.in-Some.rest.now pairs c.loop-c-test.true (sym c.if-has_value.ensures)
    (subst (λ (left : List Value). LeavesPairs known (zip (valued (drop k carried)) left) pairs) c.in-Some.ensures.cases.0 c.loop-c.invariant))
    (c.is_in.ensures.0 c.if-is_in.true)
    (λ knows. iff_false c.is_revealed.ensures c.if-not-is_revealed.true (by_some.1 knows))

pub loop-c-preserved : goal.loop-c-preserved
loop-c-preserved c =
    let x = c.args.x.now in
    let h = history_of x c.args.role c.args.events.now in
    let known = IsKnownPair x h c.args.key.now c.args.param in
    let carried = c.args.carried.now in
    let k = c.loop-c.c-index in
    let pairs = zip (valued carried) c.args.values.now in
    let from_left = λ (left : List Value). LeavesPairs known (zip (valued (drop k carried)) left) pairs in
    let from_next = λ (left : List Value). LeavesPairs known (zip (valued (drop (k + 1) carried)) left) pairs in
    elim c.if-has_value.branch [
      | then-has_value+in-Some+else-is_in w ↦
          let v = w.in-Some.value.now in
          let by_some = known_by_some x c.args.events.now c.args.role c.args.key.now c.args.param v in
          subst from_next (sym (ap (λ remaining. remaining.now) w.remaining-is))
          (leaves_rest known (get_or carried k (record { param = 0; adornment = In }), v) (zip (valued (drop (k + 1) carried)) w.in-Some.rest.now) pairs
          (elim w.else-is_in.branch [
            | else-is_in-via-then-is_in+else-not-is_revealed u ↦ record { known = λ _. by_some.0 (u.is_revealed.ensures.0 u.if-not-is_revealed.false) }
            | else-is_in-via-else-is_in u ↦ record { known = λ is. absurd (iff_false w.is_in.ensures u.if-is_in.false is) }
          ])
          (leaves_pair known carried k (record { param = 0; adornment = In }) v w.in-Some.rest.now pairs c.loop-c-test.true (sym w.if-has_value.ensures) (subst from_left w.in-Some.ensures.cases.0 c.loop-c.invariant)))
      | else-has_value w ↦
          subst from_next (sym (ap (λ remaining. remaining.now) w.remaining-is))
          (leaves_bare known carried k (record { param = 0; adornment = In }) _ pairs c.loop-c-test.true (sym w.if-has_value.ensures) c.loop-c.invariant)
    ]
