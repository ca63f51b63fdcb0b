-- What has been found of the key.
use Rattle.std.proofs.Common.{◌≡◌, map, take}
use Rattle.std.specs.List.{zip}
use Rattle.bspl_types.specs.Adornment.{valued}
use Rattle.role_journal.specs.inner.Reading.{value_at}
use Rattle.role_journal.proofs.instance.key_of.Given as goal

-- the values of the parameters so far
abbrev pub invariant-loop-param : goal.invariant-loop-param
invariant-loop-param l = l.key ≡ map (λ p. value_at p (zip (valued l.carried) l.values)) (take l.param-index l.keys)
