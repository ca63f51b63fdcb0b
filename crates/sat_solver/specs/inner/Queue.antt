-- What contracts see of a decision rule, and what its queue of variables keeps of its links.
use Rattle.std.specs.Prelude.{◌≡◌, ℕ, ◌+◌, ◌≤◌, List, length, All}

-- there is a cell for 0 and for each variable, and each cell has 0 or a variable
pub record AreLinks (vars : ℕ) (links : List ℕ) : Type 0 where
  pub cells : length links ≡ vars + 1
  pub exist : All (λ v. v ≤ vars) links

-- a decision rule over the variables from 1 to `vars`; which of them it proposes is left open
pub record Proposer : Type 0 where
  pub vars : ℕ
