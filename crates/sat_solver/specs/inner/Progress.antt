-- What the solver has learned so far.
use Rattle.std.specs.Prelude.{◌≡◌, ◌≢◌, ℕ, List, [], ◌++◌, length, All, Contains}
use Rattle.clause_core.specs.declared.literal.Lit.{Lit}
use Rattle.clause_core.specs.declared.formula.Formula.{Formula}
use Rattle.clause_core.specs.Numbering.{numbered}
use Rattle.refutation_log.specs.declared.refutation.Chain.{Chain}
use Rattle.refutation_log.specs.Resolution.{DerivesAll, AreNewClauses}
use Rattle.sat_trail.specs.State.{State, numbering_of, last_number}
use Rattle.sat_trail.specs.Trail.{IsTrail}

-- each step derives a clause of the list, which is new and not empty
pub record AreLearned (f : Formula) (steps : List Chain) (derived : List (List Lit)) : Type 0 where
  pub derives : DerivesAll f.clauses steps derived
  pub linked : All (λ chain. chain.links ≢ []) steps
  pub new : AreNewClauses f.clauses derived
  pub no_empty : ¬ Contains (f.clauses ++ derived) []
  pub counted : length derived ≡ length steps

-- the trail numbers the formula's clauses and, after them, those that were learned
pub record HasLearned (f : Formula) (t : State) (steps : List Chain) : Type 0 where
  pub derived : List (List Lit)
  pub learned : AreLearned f steps derived
  pub numbers : (n : ℕ) → numbering_of t n ≡ numbered (f.clauses ++ derived) n
  pub last : last_number t ≡ length (f.clauses ++ derived)
  pub vars : t.vars ≡ f.vars
  pub sound : IsTrail t
