-- What has been read of the fields.
use Rattle.std.proofs.Common.{◌≤◌, drop, length}
use Rattle.std.specs.Option.{option_copied}
use Rattle.bspl_types.specs.Adornment.{valued}
use Rattle.run_text.specs.inner.LineFields.{tail_of}
use Rattle.run_text.proofs.FieldLemmas.{FieldsRead}
use Rattle.run_text.proofs.fields.values_of.Given as goal

-- each parameter so far took a field if it has a value
abbrev pub invariant-loop-c : goal.invariant-loop-c
invariant-loop-c l = record {
  read : FieldsRead l.params (valued l.carried) (tail_of (option_copied l.fn.fields)) l.values (valued (drop l.c-index l.carried)) (tail_of (option_copied l.left));
  few : length l.values ≤ l.c-index;
}
