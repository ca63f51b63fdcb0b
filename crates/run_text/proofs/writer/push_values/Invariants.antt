-- What is still to be written of the values.
use Rattle.std.proofs.Common.{◌++◌, drop}
use Rattle.bspl_types.specs.Adornment.{valued}
use Rattle.run_text.specs.inner.LineFields.{value_fields}
use Rattle.run_text.proofs.LineFieldsLemmas.{IsWritten}
use Rattle.run_text.proofs.writer.push_values.Given as goal

-- the values before those that remain are written
abbrev pub invariant-loop-c : goal.invariant-loop-c
invariant-loop-c l = IsWritten l.params (l.fn.text ++ value_fields l.params (valued l.carried) l.values) l.values l.text (valued (drop l.c-index l.carried)) l.remaining
