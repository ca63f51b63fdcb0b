-- What the loop over the parameters leaves to look at.
use Rattle.std.proofs.Common.{◌≡◌, drop}
use Rattle.std.specs.List.{zip}
use Rattle.bspl_types.specs.Adornment.{valued}
use Rattle.role_knowledge.specs.inner.FirstValue.{first_value}
use Rattle.role_knowledge.proofs.knowledge.value_of.Given as goal

-- the first value is among the pairs that remain
abbrev pub invariant-loop-c : goal.invariant-loop-c
invariant-loop-c l =
    first_value (zip (valued (drop l.c-index l.carried)) l.remaining) l.param ≡ first_value (zip (valued l.carried) l.values) l.param
