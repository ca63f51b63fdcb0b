-- When a count of faults says that something failed.
use Rattle.std.specs.Prelude.{◌≡◌, ℕ, ◌+◌, ◌<◌, ◌⊎◌, min}

-- the last value of a counter of 64 bits
abbrev pub last_count : ℕ
last_count = 18446744073709551615

-- the count after one more, which stays at its last value
abbrev pub count_after : ℕ → ℕ
count_after n = min (n + 1) last_count

-- the count rose, or it was and is at its last value
abbrev pub HasCounted : ℕ → ℕ → Type 0
HasCounted old new = (old < new) ⊎ ((old ≡ last_count) × (new ≡ last_count))

-- the counts of faults of a source and of a sink, before a call and after it
pub record FaultCounts : Type 0 where
  pub reads : ℕ
  pub reads_after : ℕ
  pub writes : ℕ
  pub writes_after : ℕ
