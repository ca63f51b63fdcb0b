-- Clauses as they are written, and lists of clauses that have them.
use Rattle.std.specs.Prelude.{◌≡◌, List, [], ◌∷◌, ◌++◌}
use Rattle.clause_core.specs.declared.literal.Lit.{Lit}
use Rattle.clause_core.specs.Clause.{IsClauseOf}

-- a clause as it is written; its literals are those of a set
abbrev pub Written : Type 0
Written = List Lit

-- each clause has the literals of what is written, one by one in order
abbrev pub AreClausesOf : List Written → List (List Lit) → Type 0
AreClausesOf [] [] = Unit {0}
AreClausesOf [] (clause ∷ clauses) = ⊥
AreClausesOf (written ∷ others) [] = ⊥
AreClausesOf (written ∷ others) (clause ∷ clauses) =
    IsClauseOf written clause × AreClausesOf others clauses

-- the new list has the old clauses, and then those of what is written
pub record AppendsClauses (old new : List (List Lit)) (written : List Written) : Type 0 where
  pub added : List (List Lit)
  pub follows : new ≡ old ++ added
  pub are : AreClausesOf written added
