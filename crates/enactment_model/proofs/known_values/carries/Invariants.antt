-- What the loop over the parameters leaves to look at.
use Rattle.std.proofs.Common.{◌≡◌, drop}
use Rattle.std.specs.List.{zip}
use Rattle.bspl_types.specs.Adornment.{valued}
use Rattle.enactment_model.specs.inner.Carrying.{has_pair}
use Rattle.enactment_model.proofs.known_values.carries.Given as goal

-- the pair is among those that remain, exactly if it is among all
abbrev pub invariant-loop-c : goal.invariant-loop-c
invariant-loop-c l =
    has_pair (zip (valued (drop l.c-index l.carried)) l.remaining) l.param l.wanted ≡ has_pair (zip (valued l.carried) l.values) l.param l.wanted
