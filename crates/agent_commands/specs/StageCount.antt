-- How many stages a protocol may have that is generated.
use Rattle.std.specs.Prelude.{ℕ, ◌≤◌}

-- a number of stages that it may have
pub record IsStageCount (stages : ℕ) : Type 0 where
  pub least : 1 ≤ stages
  pub most : stages ≤ 16
