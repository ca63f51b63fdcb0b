-- What has been written of the parameters.
use Rattle.std.proofs.Common.{◌≡◌, ◌++◌}
use Rattle.std.specs.List.{flat_map, range_with_len}
use Rattle.workload.specs.Stage.{stage_parameter}
use Rattle.workload.proofs.stage.push_produced.Given as goal

-- the parameters of the stages so far are written
abbrev pub invariant-loop-before : goal.invariant-loop-before
invariant-loop-before l = l.text ≡ l.fn.text ++ flat_map stage_parameter (range_with_len 1 l.before)
