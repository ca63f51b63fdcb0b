-- Cells whose values stand apart from which of them have one.
use Rattle.std.specs.Prelude.{ℕ, Bool, Option, None, Some, List, [], ◌∷◌, if◌then◌else◌}
use Rattle.bspl_types.specs.declared.value.Value.{Value}

-- cells in rows of one width, one row after another
pub record CellRows : Type 0 where
  pub items : List (Option Value)
  pub width : ℕ
  pub rows : ℕ

-- each cell has the value of its place if it is filled
abbrev pub cells_of : List Bool → List Value → List (Option Value)
cells_of [] values = []
cells_of (filled ∷ others) [] = None ∷ cells_of others []
cells_of (filled ∷ others) (value ∷ values) =
    (if filled then Some value else None) ∷ cells_of others values
