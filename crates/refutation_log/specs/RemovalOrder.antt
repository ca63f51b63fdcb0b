-- Where the removals of a log may stand.
use Rattle.std.specs.Prelude.{◌≢◌, ℕ, ◌≤◌, List, [], length, All, AllPairs}
use Rattle.refutation_log.specs.declared.refutation.Chain.{Chain}
use Rattle.refutation_log.specs.declared.refutation.Removal.{Removal}

-- the removals stand after ever more of these steps, and each names a clause
pub record IsInOrder (steps : List Chain) (removals : List Removal) : Type 0 where
  pub rising : AllPairs (λ earlier later. earlier.after ≤ later.after) removals
  pub within : All (λ removal. removal.after ≤ length steps) removals
  pub named : All (λ removal. removal.clauses ≢ []) removals

-- the same of those that are left after `done` steps
pub record IsLeft (done : ℕ) (steps : List Chain) (removals : List Removal) : Type 0 where
  pub made : done ≤ length steps
  pub order : IsInOrder steps removals
  pub later : All (λ removal. done ≤ removal.after) removals
