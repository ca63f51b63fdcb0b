-- Which clause has a number. Numbers begin at 1, and a number may have no clause.
use Rattle.std.specs.Prelude.{◌≡◌, ℕ, ◌-◌, ◌==◌, List, Option, Some, None}
use Rattle.std.specs.Prelude.{slice_get, slice_index_or, if◌then◌else◌}
use Rattle.clause_core.specs.declared.literal.Lit.{Lit}

-- the clause of each number, if there is one
abbrev pub Numbering : Type 0
Numbering = ℕ → Option (List Lit)

-- the clauses of a list have the numbers from 1 on
abbrev pub numbered : List (List Lit) → Numbering
numbered clauses number = if number == 0 then None else slice_get clauses (number - 1)

-- the clauses of a list have the numbers from 1 on; a number has none where one was removed
abbrev pub live : List (Option (List Lit)) → Numbering
live clauses number = if number == 0 then None else slice_index_or clauses (number - 1) None

-- the clause has the number
pub record HasNumber (numbering : Numbering) (number : ℕ) (clause : List Lit) : Type 0 where
  pub there : numbering number ≡ Some clause
