-- What unit propagation sees under a partial assignment.
use Rattle.std.specs.Prelude.{◌≡◌, ◌≢◌, ℕ, Bool, not, Option, Some, None, List, All, Contains}
use Rattle.clause_core.specs.declared.literal.Lit.{Lit}
use Rattle.clause_core.specs.Numbering.{Numbering, numbered, HasNumber}

-- the partial assignment makes the literal false
abbrev pub MakesFalse : (ℕ → Option Bool) → Lit → Type 0
MakesFalse values l = values l.var ≡ Some (not l.positive)

-- the partial assignment makes each literal of the clause false
abbrev pub Falsifies : (ℕ → Option Bool) → List Lit → Type 0
Falsifies values clause = All (MakesFalse values) clause

-- the partial assignment makes the other literals of the clause false
abbrev pub OthersFalse : (ℕ → Option Bool) → List Lit → Lit → Type 0
OthersFalse values clause literal =
    (l : Lit) → Contains clause l → l ≢ literal → MakesFalse values l

-- the literal is the one of the clause that has no value, and the others are false
pub record LeavesOnly (values : ℕ → Option Bool) (clause : List Lit) (literal : Lit) : Type 0 where
  pub among : Contains clause literal
  pub no_value : values literal.var ≡ None
  pub others : OthersFalse values clause literal

-- the clause of the number is false
pub record IsFalsified
    (numbering : Numbering) (values : ℕ → Option Bool) (number : ℕ) : Type 0 where
  pub clause : List Lit
  pub has_number : HasNumber numbering number clause
  pub falsified : Falsifies values clause

-- no clause is false, and none leaves only one literal: unit propagation has nothing to do
pub record IsPropagated (values : ℕ → Option Bool) (numbering : Numbering) : Type 0 where
  pub no_false : (n : ℕ) (c : List Lit) → HasNumber numbering n c → ¬ Falsifies values c
  pub no_unit : (n : ℕ) (c : List Lit) (l : Lit) → HasNumber numbering n c → ¬ LeavesOnly values c l

-- unit propagation over the clauses lacks the clause: it misses a literal with the others false
pub record IsLacked (clauses : List (List Lit)) (clause : List Lit) : Type 0 where
  pub literal : Lit
  pub values : ℕ → Option Bool
  pub leaves : LeavesOnly values clause literal
  pub propagated : IsPropagated values (numbered clauses)
