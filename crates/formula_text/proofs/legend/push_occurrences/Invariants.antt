-- What has been written of the event kinds.
use Rattle.std.proofs.Common.{◌≡◌, ◌++◌, ◌-◌, map}
use Rattle.std.specs.List.{range_with_len}
use Rattle.formula_text.specs.Legend.{occurrence}
use Rattle.formula_text.proofs.Written.{lines}
use Rattle.formula_text.proofs.legend.push_occurrences.Given as goal

-- the lines of the kinds before this one
abbrev pub invariant-loop-kind : goal.invariant-loop-kind
invariant-loop-kind l = l.text ≡ l.initial.text ++ lines (map (occurrence l.x) (range_with_len 1 (l.kind - 1)))
