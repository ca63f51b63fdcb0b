-- What has been written of the parts.
use Rattle.std.proofs.Common.{◌≡◌, ◌++◌, ◌+◌, ◌-◌, map}
use Rattle.std.specs.List.{range_with_len}
use Rattle.formula_text.specs.AskedText.{part}
use Rattle.formula_text.proofs.Written.{lines}
use Rattle.formula_text.proofs.asked_legend.push_parts.Given as goal

-- the lines of the variables before this one
abbrev pub invariant-loop-variable : goal.invariant-loop-variable
invariant-loop-variable l = l.text ≡ l.initial.text ++ lines (map part (range_with_len (l.others + 1) (l.variable - (l.others + 1))))
