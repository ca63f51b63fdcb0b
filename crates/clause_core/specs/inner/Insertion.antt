-- One literal is inserted to an ascending list.
use Rattle.std.specs.Prelude.{◌≡◌, ◌↔◌, ◌⊎◌, List, Contains}
use Rattle.clause_core.specs.declared.literal.Lit.{Lit}
use Rattle.clause_core.specs.Clause.{IsAscending}

-- the new list ascends and has the old literals and this one
pub record Inserts (old : List Lit) (lit : Lit) (new : List Lit) : Type 0 where
  pub ascending : IsAscending new
  pub members : (l : Lit) → Contains new l ↔ (Contains old l ⊎ (lit ≡ l))
