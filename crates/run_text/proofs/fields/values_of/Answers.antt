-- One field more is read for each parameter that has a value.
use Rattle.std.proofs.Common.{◌+◌, drop, length, sym, ◌∙◌, ap, arith}
use Rattle.std.proofs.lemmas.List.{length_push}
use Rattle.std.specs.Option.{option_copied}
use Rattle.bspl_types.specs.declared.value.Value.{Value}
use Rattle.bspl_types.specs.Adornment.{valued}
use Rattle.run_text.specs.inner.LineFields.{tail_of}
use Rattle.run_text.proofs.FieldLemmas.{all_read, field_differs, field_read, more_left, next_bare, next_valued, split_of}
use Rattle.run_text.proofs.fields.values_of.Goals as goal
use Rattle.run_text.proofs.fields.values_of.Goals.{then-has_value+in-Some+in-Some-value_of, else-has_value}

pub returns-in_default-value_of : goal.returns-in_default-value_of
returns-in_default-value_of c =
    let params = c.args.params.now in
    let carried = c.args.carried.now in
    let i = c.loop-c.c-index in
    let so_far = rw (c.in-Some.is, next_valued carried i _ c.loop-c-test.true (sym c.if-has_value.ensures)) at c.loop-c.invariant.read in
    let split = split_of c.in-Some.text.now c.split_once.result.0.now c.split_once.result.1 c.split_once.ensures.first c.split_once.ensures.whole in
    let none = rw c.in_default-value_of.is at c.value_of.ensures in
    field_differs params (valued carried) _ c.loop-c.values _ (valued (drop (i + 1) carried)) c.in-Some.text.now _ _ c.requires.names (c.requires.known i _ c.loop-c-test.true) so_far split none

pub loop-c-preserved : goal.loop-c-preserved
loop-c-preserved c =
    let params = c.args.params.now in
    let carried = c.args.carried.now in
    let tail = tail_of (option_copied c.args.fields) in
    let i = c.loop-c.c-index in
    elim c.if-has_value.branch [
      | then-has_value+in-Some+in-Some-value_of w ↦
          let so_far = rw (w.in-Some.is, next_valued carried i _ c.loop-c-test.true (sym w.if-has_value.ensures)) at c.loop-c.invariant.read in
          let split = split_of w.in-Some.text.now w.split_once.result.0.now w.split_once.result.1 w.split_once.ensures.first w.split_once.ensures.whole in
          let v = w.in-Some-value_of.value in
          let read = rw w.in-Some-value_of.is at w.value_of.ensures in
          let next = field_read params (valued carried) tail c.loop-c.values _ (valued (drop (i + 1) carried)) w.in-Some.text.now _ _ v c.spells_once.ensures c.requires.names (c.requires.known i _ c.loop-c-test.true) so_far split read.0 read.1 in
          record {
            read = rw (w.values-is, w.push.ensures, w.left-is) next;
            few = omega (arith, c.loop-c.invariant.few, ap (length {A = Value}) (w.values-is ∙ w.push.ensures), length_push c.loop-c.values v);
          }
      | else-has_value w ↦
          let so_far = rw (next_bare carried i _ c.loop-c-test.true (sym w.if-has_value.ensures)) at c.loop-c.invariant.read in
          record {
            read = rw (w.values-is, w.left-is) so_far;
            few = omega (arith, c.loop-c.invariant.few, ap (length {A = Value}) w.values-is);
          }
    ]

pub returns-then-is_some : goal.returns-then-is_some
returns-then-is_some c = more_left c.args.params.now c.args.carried.now (tail_of (option_copied c.args.fields)) c.loop-c.values c.loop-c.c-index c.loop-c.left c.loop-c.invariant.read c.loop-c-test.false (sym c.is_some.ensures ∙ c.if-is_some.true)

pub returns : goal.returns
returns c =
    all_read c.args.params.now c.args.carried.now (tail_of (option_copied c.args.fields)) c.loop-c.values c.loop-c.c-index c.loop-c.left c.loop-c.invariant.read c.loop-c-test.false (sym c.is_some.ensures ∙ c.if-is_some.false)
