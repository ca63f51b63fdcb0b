-- The statements so far are in range.
use Rattle.std.proofs.Common.{take}
use Rattle.std.specs.List.{All}
use Rattle.agent_scripts.specs.Rules.{ValueFits}
use Rattle.script_text.proofs.ranges.first_out_of_range.Given as goal

abbrev pub invariant-loop-s : goal.invariant-loop-s
invariant-loop-s l = All (λ s. ValueFits l.count s.statement) (take l.s-index l.stated)
