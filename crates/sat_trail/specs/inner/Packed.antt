-- Literals as numbers.
use Rattle.std.specs.Prelude.{◌≡◌, ℕ, ◌/◌, ◌%◌, ◌==◌}
use Rattle.std.proofs.Common.{arith}
use Rattle.clause_core.specs.declared.literal.Lit.{Lit}
use Rattle.clause_core.specs.Literal.{rank}

-- the literal of a rank
abbrev pub lit_of : ℕ → Lit
lit_of rank = record { var = rank / 2; positive = rank % 2 == 1 }

-- the literal of a rank has that rank
pub rank_again : (r : ℕ) → rank (lit_of r) ≡ r
rank_again r = grind arith
