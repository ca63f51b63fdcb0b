-- One parameter more has its value.
use Rattle.std.proofs.Common.{length, sym, ◌∙◌, ap, arith}
use Rattle.std.proofs.lemmas.List.{length_push}
use Rattle.bspl_types.specs.declared.value.Value.{Value}
use Rattle.wire_form.specs.Meaning.{IsGiven}
use Rattle.wire_form.specs.inner.Asked.{fields_of}
use Rattle.wire_form.proofs.MeaningLemmas.{bare_more, none_valued, valued_more}
use Rattle.wire_form.proofs.member_values.given_values.Goals as goal
use Rattle.wire_form.proofs.member_values.given_values.Goals.{then-has_value+in-Some, else-has_value}

pub returns-in_default : goal.returns-in_default
returns-in_default c = λ values.
    none_valued (IsGiven c.args.x.now (fields_of c.args.fields.now)) c.args.carried.now c.loop-c.c-index _ values c.loop-c-test.true (sym c.if-has_value.ensures)
    (rw c.in_default.is at c.given_value.ensures)

pub loop-c-preserved : goal.loop-c-preserved
loop-c-preserved c =
    let R = IsGiven c.args.x.now (fields_of c.args.fields.now) in
    let carried = c.args.carried.now in
    let i = c.loop-c.c-index in
    elim c.if-has_value.branch [
      | then-has_value+in-Some w ↦
          let given = rw w.in-Some.is at w.given_value.ensures in
          record {
            read = rw (w.values-is, w.push.ensures) (valued_more R carried i _ c.loop-c.values w.in-Some.value c.loop-c-test.true (sym w.if-has_value.ensures) c.loop-c.invariant.read given);
            few = omega (arith, c.loop-c.invariant.few, ap (length {A = Value}) (w.values-is ∙ w.push.ensures), length_push c.loop-c.values w.in-Some.value);
          }
      | else-has_value w ↦
          record {
            read = rw w.values-is (bare_more R carried i _ c.loop-c.values c.loop-c-test.true (sym w.if-has_value.ensures) c.loop-c.invariant.read);
            few = omega (arith, c.loop-c.invariant.few, ap (length {A = Value}) w.values-is);
          }
    ]
