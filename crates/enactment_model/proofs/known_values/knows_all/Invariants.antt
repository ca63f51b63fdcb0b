-- What the loop over the parameters has found and leaves to look at.
use Rattle.std.proofs.Common.{drop}
use Rattle.std.specs.List.{zip}
use Rattle.bspl_types.specs.Adornment.{valued}
use Rattle.bspl_types.specs.History.{history_of}
use Rattle.enactment_model.specs.inner.Carrying.{IsKnownPair}
use Rattle.enactment_model.proofs.CarryingLemmas.{LeavesPairs}
use Rattle.enactment_model.proofs.known_values.knows_all.Given as goal

-- all values are known if those that remain are
abbrev pub invariant-loop-c : goal.invariant-loop-c
invariant-loop-c l =
    LeavesPairs (IsKnownPair l.x (history_of l.x l.role l.events) l.key l.param) (zip (valued (drop l.c-index l.carried)) l.remaining) (zip (valued l.carried) l.values)
