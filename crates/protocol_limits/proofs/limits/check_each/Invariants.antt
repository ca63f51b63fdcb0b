-- What the loop of `check_each` keeps.
use Rattle.std.proofs.Common.{◌≡◌, drop}
use Rattle.std.specs.List.{find}
use Rattle.protocol_limits.specs.Limits.{is_over}
use Rattle.protocol_limits.proofs.limits.check_each.Given as goal

-- the limits that were passed hold
abbrev pub invariant-loop-limit : goal.invariant-loop-limit
invariant-loop-limit l = find is_over (drop l.limit-index l.limits) ≡ find is_over l.limits
