-- How many threads a command line may give each role.
use Rattle.std.specs.Prelude.{ℕ, ◌≤◌}

-- a number of threads that it may give
abbrev pub IsThreadCount : ℕ → Type 0
IsThreadCount threads = threads ≤ 8
