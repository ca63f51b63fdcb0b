-- Which fields were passed.
use Rattle.std.proofs.Common.{◌≡◌, drop}
use Rattle.serde_json.specs.Find.{get_member}
use Rattle.wire_form.specs.Request.{fields_data}
use Rattle.wire_form.specs.inner.Asked.{fields_of}
use Rattle.wire_form.proofs.member_values.given_value.Given as goal

-- those before have other names
abbrev pub invariant-loop-field : goal.invariant-loop-field
invariant-loop-field l = record {
  found : get_member l.name (fields_data (fields_of l.fields)) ≡ get_member l.name (fields_data (fields_of (drop l.field-index l.fields)));
}
