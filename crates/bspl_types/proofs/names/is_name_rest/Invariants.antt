-- What the loop over the bytes leaves to ask.
use Rattle.std.proofs.Common.{◌≡◌, drop}
use Rattle.bspl_types.specs.Name.{is_name_rest}
use Rattle.bspl_types.proofs.names.is_name_rest.Given as goal

-- the whole goes on as what is left does
abbrev pub invariant-loop-i : goal.invariant-loop-i
invariant-loop-i l = is_name_rest (drop l.i l.text) ≡ is_name_rest l.text
