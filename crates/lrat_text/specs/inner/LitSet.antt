-- A set of literals by their ranks.
use Rattle.std.specs.Prelude.{ℕ, ◌↔◌, List, Contains, IsTrue}
use Rattle.std.specs.BTreeSet.{BTreeSet, contains}
use Rattle.std.specs.Ordering.{nat_cmp}
use Rattle.clause_core.specs.declared.literal.Lit.{Lit}
use Rattle.clause_core.specs.Literal.{rank}

-- the literal is in the set
abbrev pub HasLit : BTreeSet ℕ → Lit → Type 0
HasLit ranks l = IsTrue (contains nat_cmp ranks (rank l))

-- the set has the literals of the list and no other
pub record Holds (ranks : BTreeSet ℕ) (lits : List Lit) : Type 0 where
  pub exactly : (l : Lit) → HasLit ranks l ↔ Contains lits l
