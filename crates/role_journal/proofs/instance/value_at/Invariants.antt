-- What the loop over the parameters leaves to search.
use Rattle.std.proofs.Common.{◌≡◌, drop}
use Rattle.std.specs.List.{zip}
use Rattle.bspl_types.specs.Adornment.{valued}
use Rattle.role_journal.specs.inner.Reading.{value_at}
use Rattle.role_journal.proofs.instance.value_at.Given as goal

-- the parameter was not among those before
abbrev pub invariant-loop-c : goal.invariant-loop-c
invariant-loop-c l = value_at l.param (zip (valued (drop l.c-index l.carried)) l.remaining) ≡ value_at l.param (zip (valued l.carried) l.values)
