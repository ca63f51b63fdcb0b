-- What a plan can be.
use Rattle.std.specs.Prelude.{ℕ, ◌≤◌}

-- at most 1000 of each thousand messages are lost, and there are at most three further copies
pub record IsPlan (loss repeat : ℕ) : Type 0 where
  pub few_losses : loss ≤ 1000
  pub few_copies : repeat ≤ 3
