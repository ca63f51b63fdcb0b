-- What is known of the parameters so far.
use Rattle.std.proofs.Common.{◌≢◌, take}
use Rattle.std.specs.List.{All}
use Rattle.bspl_types.specs.declared.protocol.Adornment.TheVariants.{In}
use Rattle.role_server.proofs.live_act.first_in.Given as goal

-- none of those that were passed is adorned `in`
abbrev pub invariant-loop-c : goal.invariant-loop-c
invariant-loop-c l = All (λ c. c.adornment ≢ In) (take l.c-index l.carried)
