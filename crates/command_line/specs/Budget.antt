-- How many conflicts a command line may allow a search.
use Rattle.std.specs.Prelude.{ℕ, ◌≤◌}

-- a number of conflicts that it may allow
pub record IsBudget (conflicts : ℕ) : Type 0 where
  pub least : 1 ≤ conflicts
  pub most : conflicts ≤ 20000
