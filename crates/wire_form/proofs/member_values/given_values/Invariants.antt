-- What was found of the parameters.
use Rattle.std.proofs.Common.{◌≤◌, take, length}
use Rattle.std.specs.List.{AllZip}
use Rattle.bspl_types.specs.Adornment.{valued}
use Rattle.wire_form.specs.Meaning.{IsGiven}
use Rattle.wire_form.specs.inner.Asked.{fields_of}
use Rattle.wire_form.proofs.member_values.given_values.Given as goal

-- those so far that have a value are given it
abbrev pub invariant-loop-c : goal.invariant-loop-c
invariant-loop-c l = record {
  read : AllZip (IsGiven l.x (fields_of l.fields)) (valued (take l.c-index l.carried)) l.values;
  few : length l.values ≤ l.c-index;
}
