-- What has been written of the kinds.
use Rattle.std.proofs.Common.{◌≡◌, ◌++◌, ◌-◌}
use Rattle.std.specs.List.{flat_map, range_with_len}
use Rattle.formula_text.specs.Legend.{orders_of}
use Rattle.formula_text.proofs.Written.{lines}
use Rattle.formula_text.proofs.legend.push_orders.Given as goal

-- the lines of the kinds before this one
abbrev pub invariant-loop-i : goal.invariant-loop-i
invariant-loop-i l = l.text ≡ l.initial.text ++ lines (flat_map (orders_of l.x l.vars) (range_with_len 1 (l.i - 1)))
