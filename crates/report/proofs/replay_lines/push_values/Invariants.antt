-- What has been written of the values.
use Rattle.std.proofs.Common.{◌≡◌, ◌∷◌, ◌++◌, take}
use Rattle.std.specs.List.{flat_map}
use Rattle.bspl_types.specs.ValueSpelling.{value_spelling}
use Rattle.report.proofs.replay_lines.push_values.Given as goal

-- the values so far are written
abbrev pub invariant-loop-value : goal.invariant-loop-value
invariant-loop-value l = l.text ≡ l.fn.text ++ flat_map (λ value. 32 ∷ value_spelling value) (take l.value-index l.values)
