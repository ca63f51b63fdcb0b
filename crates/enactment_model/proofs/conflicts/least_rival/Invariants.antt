-- What the loop over the parameters has found.
use Rattle.std.proofs.Common.{ℕ, ◌<◌}
use Rattle.enactment_model.specs.Rivals.{HasNoRival}
use Rattle.enactment_model.proofs.conflicts.least_rival.Given as goal

-- over no parameter so far is there a conflict
abbrev pub invariant-loop-param : goal.invariant-loop-param
invariant-loop-param l = (p : ℕ) → p < l.param → HasNoRival l.x l.run l.second p
