-- Clauses as lists of literals, and what a valuation satisfies.
use Rattle.std.specs.Prelude.{◌≡◌, ℕ, ◌<◌, ◌≤◌, ◌↔◌, Bool, List, All, AllPairs, Any, Contains}
use Rattle.clause_core.specs.declared.literal.Lit.{Lit}
use Rattle.clause_core.specs.Literal.{rank, MakesTrue}

-- each literal comes before the later ones in the order of literals, so none is there twice
pub record IsAscending (clause : List Lit) : Type 0 where
  pub ordered : AllPairs (λ l m. rank l < rank m) clause

-- the clause holds the literals of the list and no other
abbrev pub HasExactly : List Lit → List Lit → Type 0
HasExactly clause lits = (l : Lit) → Contains clause l ↔ Contains lits l

-- each variable of the clause is one of those from 1 to `vars`
abbrev pub VariablesExist : ℕ → List Lit → Type 0
VariablesExist vars clause = All (λ l. (0 < l.var) × (l.var ≤ vars)) clause

-- the valuation makes a literal of the clause true
abbrev pub Satisfies : (ℕ → Bool) → List Lit → Type 0
Satisfies v clause = Any (MakesTrue v) clause

-- the valuation satisfies each of the clauses
abbrev pub SatisfiesAll : (ℕ → Bool) → List (List Lit) → Type 0
SatisfiesAll v clauses = All (Satisfies v) clauses

-- no valuation satisfies all of the clauses
abbrev pub IsUnsatisfiable : List (List Lit) → Type 0
IsUnsatisfiable clauses = (v : ℕ → Bool) → ¬ SatisfiesAll v clauses

-- a valuation that satisfies both clauses satisfies the third
abbrev pub Entails : List Lit → List Lit → List Lit → Type 0
Entails c d r = (v : ℕ → Bool) → Satisfies v c → Satisfies v d → Satisfies v r

-- clauses with the same literals are equal
abbrev pub ClausesAreSets : Type 0
ClausesAreSets =
    (c d : List Lit) → IsAscending c → IsAscending d → HasExactly c d → c ≡ d

-- the clause has the literals of the list, and they ascend
pub record IsClauseOf (lits clause : List Lit) : Type 0 where
  pub ascending : IsAscending clause
  pub exactly : HasExactly clause lits

-- each list of literals has a clause
abbrev pub ListsHaveClauses : Type 0
ListsHaveClauses = (lits : List Lit) → (clause : List Lit) × IsClauseOf lits clause
