-- A set of literals over numbered variables, and the positions where it finds them.
use Rattle.std.specs.Prelude.{◌≡◌, ◌≢◌, ℕ, ◌+◌, ◌-◌, ◌^◌, ◌<◌, ◌≤◌, List, ◌∷◌, length, take}
use Rattle.std.specs.Prelude.{AllPairs, Contains, nat_lt, count_by, slice_index_or}
use Rattle.std.specs.List.Sorted.{IsPermutation}
use Rattle.clause_core.specs.declared.literal.Lit.{Lit}
use Rattle.clause_core.specs.Literal.{negated}
use Rattle.clause_core.specs.Clause.{VariablesExist}

-- the literals in some order, over the variables from 1 to `vars`
pub record LiteralSet : Type 0 where
  pub vars : ℕ
  pub lits : List Lit

-- the literals are of different variables, which exist, and a `u32` counts them
pub record IsLiteralSet (s : LiteralSet) : Type 0 where
  pub exist : VariablesExist s.vars s.lits
  pub distinct : AllPairs (λ l m. l.var ≢ m.var) s.lits
  pub few : length s.lits < 2 ^ 32

-- the literal's variable exists, and its negation is not in the set
pub record MayEnter (s : LiteralSet) (lit : Lit) : Type 0 where
  pub from_one : 0 < lit.var
  pub exists : lit.var ≤ s.vars
  pub alone : ¬ Contains s.lits (negated lit)

-- the literal was taken out, and the order of the others may change
pub record TakesOut (old : List Lit) (lit : Lit) (new : List Lit) : Type 0 where
  pub others : IsPermutation old (lit ∷ new)
  pub gone : ¬ Contains new lit

-- the cell of each variable has the position of its literal, from 1, or 0
pub record HasCells (lits : List Lit) (positions : List ℕ) : Type 0 where
  pub exist : VariablesExist (length positions) lits
  pub there : (k : ℕ) (d : Lit) → k < length lits →
      slice_index_or positions ((slice_index_or lits k d).var - 1) 0 ≡ k + 1
  pub back : (v n : ℕ) (d : Lit) → slice_index_or positions v 0 ≡ n + 1 →
      (n < length lits) × ((slice_index_or lits n d).var ≡ v + 1)
  pub counted : count_by (λ position. nat_lt 0 position) positions ≡ length lits

-- the first `len` slots are the literals; there is a slot and a cell for each variable
pub record IsStoredSet (slots : List Lit) (len : ℕ) (positions : List ℕ) : Type 0 where
  pub room : length slots ≡ length positions
  pub few : length positions < 2 ^ 32
  pub filled : len ≤ length slots
  pub finds : HasCells (take len slots) positions
