-- What has been written of the later kinds.
use Rattle.std.proofs.Common.{◌≡◌, ◌++◌, ◌+◌, ◌-◌, map}
use Rattle.std.specs.List.{range_with_len}
use Rattle.formula_text.specs.Legend.{order}
use Rattle.formula_text.proofs.Written.{lines}
use Rattle.formula_text.proofs.legend.push_orders_of.Given as goal

-- the lines of the kinds before this one
abbrev pub invariant-loop-j : goal.invariant-loop-j
invariant-loop-j l = l.text ≡ l.initial.text ++ lines (map (order l.x l.vars l.i) (range_with_len (l.i + 1) (l.j - (l.i + 1))))
