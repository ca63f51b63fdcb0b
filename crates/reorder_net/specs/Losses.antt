-- Which messages a plan loses.
use Rattle.std.specs.Prelude.{ℕ, ◌+◌, ◌*◌, ◌%◌, ◌<◌, Bool, nat_lt, if◌then◌else◌}
use Rattle.agent_scripts.specs.declared.plan.Plan.{Plan}

-- a number below 1000 for message m at workload number n, by the plan's seed
abbrev pub chance : Plan → ℕ → ℕ → ℕ
chance plan m n = (plan.seed % 1000 + 379 * (m + 1) + 617 * (n % 1000)) % 1000

-- the plan loses message m, counted from 0, at workload number n
abbrev pub IsLost : Plan → ℕ → ℕ → Type 0
IsLost plan m n = chance plan m n < plan.loss

-- the same as a test
abbrev pub is_lost : Plan → ℕ → ℕ → Bool
is_lost plan m n = nat_lt (chance plan m n) plan.loss

-- how many copies are delivered: none if it is lost, else one and the repeated ones
abbrev pub copies_of : Plan → ℕ → ℕ → ℕ
copies_of plan m n = if is_lost plan m n then 0 else 1 + plan.repeat
