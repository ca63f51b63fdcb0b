-- A parameter with a value takes the next one, and another none.
use Rattle.std.proofs.Common.{refl, sym, subst, ap, arith, drop, ◌+◌, List}
use Rattle.std.specs.Prelude.{◌↔◌}
use Rattle.std.specs.List.{All, zip}
use Rattle.std.proofs.lemmas.Bool.{false≢true}
use Rattle.bspl_types.specs.declared.value.Value.{Value}
use Rattle.bspl_types.specs.Adornment.{valued}
use Rattle.bspl_types.specs.KeyAgrees.{KeyAgrees}
use Rattle.bspl_types.proofs.Bindings.{keeps_bare, keeps_agreeing, breaks_differing, holds_without_values, holds_at_end}
use Rattle.bspl_types.proofs.pairs.agree.Goals as goal
use Rattle.bspl_types.proofs.pairs.agree.Goals.{then-has_value+in-Some+else-not-agrees, else-has_value}

pub returns-in_default : goal.returns-in_default
returns-in_default c = (λ _. holds_without_values (KeyAgrees c.args.keys.now c.args.key.now) _ (valued (drop c.loop-c.c-index c.args.carried.now)) c.loop-c.remaining.now c.in_default.ensures.cases c.loop-c.invariant, λ _. refl)

pub returns-then-not-agrees : goal.returns-then-not-agrees
returns-then-not-agrees c =
    let Agrees = KeyAgrees c.args.keys.now c.args.key.now in
    let left_is = c.in-Some.ensures.cases.0 in
    let same = subst (λ left. All Agrees (zip (valued (drop c.loop-c.c-index c.args.carried.now)) left) ↔ All Agrees (zip (valued c.args.carried.now) c.args.values.now)) left_is c.loop-c.invariant in (
      λ yes. absurd (false≢true yes),
      λ all. absurd (breaks_differing Agrees _ c.args.carried.now c.loop-c.c-index _ c.in-Some.value.now c.in-Some.rest.now c.loop-c-test.true (sym c.if-has_value.ensures) (λ agrees. false≢true (c.if-not-agrees.ensures.1 agrees)) same all),
    )

pub loop-c-preserved : goal.loop-c-preserved
loop-c-preserved c =
    let Agrees = KeyAgrees c.args.keys.now c.args.key.now in
    let Whole = All Agrees (zip (valued c.args.carried.now) c.args.values.now) in
    let from_left = λ (left : List Value). All Agrees (zip (valued (drop c.loop-c.c-index c.args.carried.now)) left) ↔ Whole in
    let from_next = λ (left : List Value). All Agrees (zip (valued (drop (c.loop-c.c-index + 1) c.args.carried.now)) left) ↔ Whole in
    elim c.if-has_value.branch [
      | then-has_value+in-Some+else-not-agrees w ↦
          subst from_next (sym (ap (λ remaining. remaining.now) w.remaining-is))
          (keeps_agreeing Agrees Whole c.args.carried.now c.loop-c.c-index _ w.in-Some.value.now w.in-Some.rest.now c.loop-c-test.true (sym w.if-has_value.ensures)
          (w.if-not-agrees.ensures.0 refl) (subst from_left w.in-Some.ensures.cases.0 c.loop-c.invariant))
      | else-has_value w ↦
          subst from_next (sym (ap (λ remaining. remaining.now) w.remaining-is))
          (keeps_bare Agrees Whole c.args.carried.now c.loop-c.c-index _ _ c.loop-c-test.true (sym w.if-has_value.ensures) c.loop-c.invariant)
    ]

pub returns : goal.returns
returns c = (λ _. holds_at_end (KeyAgrees c.args.keys.now c.args.key.now) _ c.args.carried.now c.loop-c.c-index c.loop-c.remaining.now (omega arith) c.loop-c.invariant, λ _. refl)
