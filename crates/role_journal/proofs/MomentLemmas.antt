-- A row of calls of a disk, after each of which a crash leaves what has P.
use Rattle.std.proofs.Common.{ℕ, ⊎_elim, List, arith}
use Rattle.role_journal.specs.Crash.{CrashLeavesOnly, Stays, TimePasses}

-- so far each crash left what has P, and so does one now
pub record IsSafe {D : Type 0} (may_leave : D → List ℕ → Type 0) (clock : D → ℕ) (left_since : D → ℕ → List ℕ → Type 0) (P : List ℕ → Type 0) (old now : D) : Type 0 where
  pub so_far : CrashLeavesOnly clock left_since old now P
  pub here : (c : List ℕ) → may_leave now c → P c

module _ {D : Type 0} (seen : D → List ℕ) (may_leave : D → List ℕ → Type 0) (clock : D → ℕ) (left_since : D → ℕ → List ℕ → Type 0) (P : List ℕ → Type 0) where
  -- before the first call
  pub safe_start : (old : D) → ((c : List ℕ) → left_since old (clock old) c → may_leave old c) → ((c : List ℕ) → may_leave old c → P c) → IsSafe may_leave clock left_since P old old
  safe_start old only here = record { so_far = record { later = omega arith; each = λ c left. here c (only c left) }; here = here }

  -- one call more
  pub safe_step : (old mid new : D) → IsSafe may_leave clock left_since P old mid → TimePasses (clock mid) (clock new) (left_since mid) (left_since new) (may_leave new) → ((c : List ℕ) → may_leave new c → P c) → IsSafe may_leave clock left_since P old new
  safe_step old mid new safe time here = record {
    so_far = record {
      later = omega (arith, safe.so_far.later, time.later);
      each = λ c left. ⊎_elim (safe.so_far.each c) (here c) (time.nothing_else (clock old) c safe.so_far.later left);
    };
    here = here;
  }

  -- one that changes nothing
  pub safe_stays : (old mid new : D) → IsSafe may_leave clock left_since P old mid → Stays seen may_leave clock left_since mid new → IsSafe may_leave clock left_since P old new
  safe_stays old mid new safe stays = safe_step old mid new safe stays.time (λ c left. safe.here c (stays.crash c left))
