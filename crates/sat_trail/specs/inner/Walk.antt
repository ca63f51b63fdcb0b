-- A walk along the list of one literal, and what it changes.
use Rattle.std.specs.Prelude.{◌≡◌, ◌≢◌, ℕ, ◌<◌, ◌≤◌, List, ◌∷◌, length, Contains}
use Rattle.std.specs.Prelude.{slice_set}
use Rattle.clause_core.specs.declared.literal.Lit.{Lit}
use Rattle.clause_core.specs.Literal.{rank}
use Rattle.sat_trail.specs.declared.watch.Cell.{Cell}
use Rattle.sat_trail.specs.inner.Watches.{cell_of, watch, Watches, IsPut, head_of, IsChain, IsBefore}
use Rattle.sat_trail.specs.inner.Watches.{IsDistinct, joined, last_of, IsListed, KeepsLits, WatchesApart}
use Rattle.sat_trail.specs.inner.Watches.{IsWithin}

-- in the list of the literal, these clauses were passed, and those come
pub record IsWalk
    (cells : List Cell) (heads : List ℕ) (l : Lit) (passed rest : List ℕ)
    (before number : ℕ) : Type 0 where
  pub last : before ≡ last_of passed
  pub linked : IsBefore cells l (head_of heads l) passed number
  pub chain : IsChain cells l number rest
  pub distinct : IsDistinct (joined passed rest)
  pub covers : (n : ℕ) → Watches (cell_of cells n) l → Contains (joined passed rest) n
  pub apart : (n : ℕ) → Watches (cell_of cells n) l → WatchesApart (cell_of cells n)

-- the other literals have their lists, and cells watch literals of the variables
pub record AreOthersListed (vars : ℕ) (cells : List Cell) (heads : List ℕ) (l : Lit) : Type 0 where
  pub listed : (m : Lit) → 0 < m.var → m.var ≤ vars → m ≢ l → IsListed cells heads m
  pub within : (n : ℕ) → IsWithin vars (cell_of cells n)

-- the next clause after that of the number, or the first one after number 0, is set
pub data SetsLink
    (cells new_cells : List Cell) (heads new_heads : List ℕ) (l : Lit) (number next : ℕ)
    : Type 0 where
  at_head : number ≡ 0 → new_cells ≡ cells → new_heads ≡ slice_set heads (rank l) next →
      SetsLink cells new_cells heads new_heads l number next
  at_cell : 0 < number → new_heads ≡ heads → (cell : Cell) →
      IsPut (cell_of cells number) l (watch l next) cell →
      new_cells ≡ slice_set cells number cell →
      SetsLink cells new_cells heads new_heads l number next

-- the clause of the number is the first that watches another literal in place of this one
pub record PutsFirst
    (cells new_cells : List Cell) (heads new_heads : List ℕ) (l to : Lit) (number : ℕ)
    : Type 0 where
  pub cell : Cell
  pub put : IsPut (cell_of cells number) l (watch to (head_of heads to)) cell
  pub cells_set : new_cells ≡ slice_set cells number cell
  pub heads_set : new_heads ≡ slice_set heads (rank to) number

-- the clause of the number left the list of one literal, and is the first of another's
pub record MovesWatch
    (vars : ℕ) (cells new_cells : List Cell) (heads new_heads : List ℕ) (l to : Lit)
    (before number next : ℕ) : Type 0 where
  pub as_many : length new_cells ≡ length cells
  pub heads_as_many : length new_heads ≡ length heads
  pub put : (w : ℕ) × IsPut (cell_of cells number) l (watch to w) (cell_of new_cells number)
  pub others : (n : ℕ) → n ≢ number → KeepsLits (cell_of cells n) (cell_of new_cells n)
  pub walk : (passed rest : List ℕ) → IsWalk cells heads l passed (number ∷ rest) before number →
      IsWalk new_cells new_heads l passed rest before next
  pub others_listed : AreOthersListed vars new_cells new_heads l

-- the clause of the number left the list of the literal, and watches none in its place
pub record Unlinks
    (vars : ℕ) (cells new_cells : List Cell) (heads new_heads : List ℕ) (l : Lit)
    (before number next : ℕ) : Type 0 where
  pub to : Lit
  pub none : to.var ≡ 0
  pub moves : MovesWatch vars cells new_cells heads new_heads l to before number next

-- the clause of the number comes after another in the list of the literal, or is the first in it
pub record Walks
    (cells : List Cell) (heads : List ℕ) (l : Lit) (before number : ℕ) : Type 0 where
  pub passed : List ℕ
  pub rest : List ℕ
  pub walk : IsWalk cells heads l passed (number ∷ rest) before number

-- the literal is of a variable or of variable 0, which stands for none, and the cell does not watch
-- it
pub record IsNewWatch (vars : ℕ) (cell : Cell) (to : Lit) : Type 0 where
  pub exists : to.var ≤ vars
  pub absent : ¬ Watches cell to
