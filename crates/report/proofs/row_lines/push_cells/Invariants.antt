-- What has been written of the cells.
use Rattle.std.proofs.Common.{◌≡◌, ◌++◌, ◌∷◌, take}
use Rattle.std.specs.List.{enumerate_from, flat_map}
use Rattle.report.specs.WorldText.{cell_field}
use Rattle.report.proofs.row_lines.push_cells.Given as goal

-- the fields of the parameters so far are written
abbrev pub invariant-loop-param : goal.invariant-loop-param
invariant-loop-param l = l.text ≡ l.fn.text ++ flat_map (λ cell. 32 ∷ cell_field l.x cell) (take l.param (enumerate_from 0 l.cells))
