-- Items that stand in rows of one width, one row after another.
use Rattle.std.specs.Prelude.{◌≡◌, ℕ, ◌+◌, ◌*◌, ◌<◌, ◌≤◌, Option, None, Some, Bool}
use Rattle.std.specs.Prelude.{false, List, [], ◌∷◌, slice_index_or, slice_set}
use Rattle.std.specs.List.{All}
use Rattle.bspl_types.specs.declared.protocol.Carried.{Carried}
use Rattle.bspl_types.specs.declared.value.Value.{Value}

-- a grid with this width and this number of rows has the row, and a column for each parameter
pub record HasCells (width rows row : ℕ) (carried : List Carried) : Type 0 where
  pub within : row < rows
  pub columns : All (λ c. c.param < width) carried

-- no row is lost, and the width stays
pub record RowsGrow (width rows new_width new_rows : ℕ) : Type 0 where
  pub same : new_width ≡ width
  pub kept : rows ≤ new_rows

-- the value in the row's cell, if it has one; past the end no cell has
abbrev pub cell_at : ℕ → List (Option Value) → ℕ → ℕ → Option Value
cell_at width cells row p = slice_index_or cells (row * width + p) None

-- whether the row's mark is set; past the end none is
abbrev pub mark_at : ℕ → List Bool → ℕ → ℕ → Bool
mark_at width marks row m = slice_index_or marks (row * width + m) false

-- the cells after each pair's value is put into its parameter's cell of the row
abbrev pub bound : ℕ → ℕ → List (Option Value) → List (Carried × Value) → List (Option Value)
bound width row cells [] = cells
bound width row cells (pair ∷ pairs) =
    bound width row (slice_set cells (row * width + pair.0.param) (Some pair.1)) pairs
