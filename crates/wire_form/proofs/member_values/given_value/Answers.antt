-- The field of the name is the first that has it.
use Rattle.std.proofs.Common.{true≢false, sym, ◌∙◌}
use Rattle.wire_form.specs.inner.Asked.{fields_of}
use Rattle.wire_form.proofs.MeaningLemmas.{field_found, field_passed, given_by}
use Rattle.wire_form.proofs.member_values.given_value.Goals as goal

pub returns-then-is_named : goal.returns-then-is_named
returns-then-is_named c =
    let l = c.loop-field in
    let fields = c.args.fields.now in
    let here = field_found fields l.field-index _ c.param_name-name.result.now c.as_bytes.result.now c.loop-field-test.true l.invariant.found (c.is_named.ensures.0 c.if-is_named.true) c.as_bytes.ensures.value in
    given_by c.args.x.now (fields_of fields) c.args.c c.as_bytes.result.now c.read.result (rw c.param_name-name.ensures at here) c.read.ensures

pub loop-field-preserved : goal.loop-field-preserved
loop-field-preserved c =
    let l = c.loop-field in
    record {
      found = field_passed c.args.fields.now l.field-index _ c.param_name-name.result.now c.loop-field-test.true l.invariant.found (λ same. true≢false (sym (c.is_named.ensures.1 same) ∙ c.if-is_named.false));
    }
