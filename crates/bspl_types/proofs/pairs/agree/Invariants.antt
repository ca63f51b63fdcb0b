-- What the loop over the parameters leaves to ask.
use Rattle.std.proofs.Common.{drop}
use Rattle.std.specs.Prelude.{◌↔◌}
use Rattle.std.specs.List.{All, zip}
use Rattle.bspl_types.specs.Adornment.{valued}
use Rattle.bspl_types.specs.KeyAgrees.{KeyAgrees}
use Rattle.bspl_types.proofs.pairs.agree.Given as goal

-- all agree where those that are left do
abbrev pub invariant-loop-c : goal.invariant-loop-c
invariant-loop-c l = All (KeyAgrees l.keys l.key) (zip (valued (drop l.c-index l.carried)) l.remaining) ↔ All (KeyAgrees l.keys l.key) (zip (valued l.carried) l.values)
