-- Where the clauses of a kind start among those of an order.
use Rattle.std.specs.Prelude.{◌≡◌, ℕ, suc, zero, ◌+◌, ◌-◌, ◌*◌, ◌<◌, ◌≤◌, List, map}
use Rattle.std.specs.List.{range_with_len}

-- how many clauses a kind before all of these has with two later ones, of which the first is one
-- of the first so many
abbrev pub pair_start : ℕ → ℕ → ℕ
pair_start kinds zero = 0
pair_start kinds (suc j) = pair_start kinds j + 2 * (kinds - suc j)

-- how many clauses have one of the first so many kinds as their first
abbrev pub cycle_start : ℕ → ℕ → ℕ
cycle_start kinds zero = 0
cycle_start kinds (suc i) =
    cycle_start kinds i + (pair_start kinds kinds - pair_start kinds (suc i))

-- the list has these numbers, for each number of kinds from 0 on
pub record ArePairStarts (kinds : ℕ) (starts : List ℕ) : Type 0 where
  pub all : starts ≡ map (pair_start kinds) (range_with_len 0 (kinds + 1))

pub record AreCycleStarts (kinds : ℕ) (starts : List ℕ) : Type 0 where
  pub all : starts ≡ map (cycle_start kinds) (range_with_len 0 (kinds + 1))

-- the kind is the first one whose start is greater than the index
pub record IsReached (kinds : ℕ) (start : ℕ → ℕ) (index kind : ℕ) : Type 0 where
  pub some : 0 < kind
  pub up_to : kind ≤ kinds
  pub before : start (kind - 1) ≤ index
  pub after : index < start kind
