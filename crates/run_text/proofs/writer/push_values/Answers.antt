-- The next value is written if its parameter has one.
use Rattle.std.proofs.Common.{◌+◌, drop, sym}
use Rattle.bspl_types.specs.Adornment.{valued}
use Rattle.run_text.proofs.FieldLemmas.{next_bare, next_valued}
use Rattle.run_text.proofs.LineFieldsLemmas.{value_written}
use Rattle.run_text.proofs.writer.push_values.Goals as goal
use Rattle.run_text.proofs.writer.push_values.Goals.{then-has_value+in-Some+in_ok-push_value, else-has_value}

pub loop-c-preserved : goal.loop-c-preserved
loop-c-preserved c =
    let params = c.args.params.now in
    let carried = c.args.carried.now in
    let i = c.loop-c.c-index in
    elim c.if-has_value.branch [
      | then-has_value+in-Some+in_ok-push_value w ↦
          let before = rw (w.in-Some.ensures.cases.0, next_valued carried i _ c.loop-c-test.true (sym w.if-has_value.ensures)) at c.loop-c.invariant in
          let next = value_written params _ c.args.values.now c.loop-c.text _ (valued (drop (i + 1) carried)) w.in-Some.value.now w.in-Some.rest.now before w.in_ok-push_value.ensures.value in
          rw (w.text-is, w.in_ok-push_value.ensures.text, w.remaining-is) next
      | else-has_value w ↦
          let before = rw (next_bare carried i _ c.loop-c-test.true (sym w.if-has_value.ensures)) at c.loop-c.invariant in
          rw (w.text-is, w.remaining-is) before
    ]
