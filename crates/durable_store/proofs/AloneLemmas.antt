-- A row of calls each of which leaves a disk as it was.
use Rattle.std.proofs.Common.{ℕ, ◌+◌, ◌≤◌, ⊎_elim, inl, inr, List, refl, sym, ◌∙◌, arith}
use Rattle.role_journal.specs.Crash.{Leaves, Stays}
use Rattle.durable_store.specs.Start.{IsKeptAsItWas}
use Rattle.durable_store.specs.inner.Gates.{IsLeftAlone}

module _ {D : Type 0} (seen : D → List ℕ) (may_leave : D → List ℕ → Type 0) (clock : D → ℕ) (left_since : D → ℕ → List ℕ → Type 0) where
  -- before the first call
  pub alone_start : (d : D) → IsLeftAlone seen may_leave clock left_since d d
  alone_start d = record { same = refl; crash = λ c left. left; later = omega arith; since = λ t c early left. inl left }

  -- after one call
  pub alone_once : (old new : D) → Stays seen may_leave clock left_since old new → IsLeftAlone seen may_leave clock left_since old new
  alone_once old new stays = record {
    same = stays.same;
    crash = stays.crash;
    later = stays.time.later;
    since = λ t c early left. elim (stays.time.nothing_else t c early left) [ inl before ↦ inl before | inr now ↦ inr (stays.crash c now) ];
  }

  -- after more of them
  pub alone_join : (old mid new : D) → IsLeftAlone seen may_leave clock left_since old mid → IsLeftAlone seen may_leave clock left_since mid new → IsLeftAlone seen may_leave clock left_since old new
  alone_join old mid new first second = record {
    same = second.same ∙ first.same;
    crash = λ c left. first.crash c (second.crash c left);
    later = omega (arith, first.later, second.later);
    since = λ t c early left. elim (second.since t c (omega (arith, early, first.later)) left) [
      | inl before ↦ first.since t c early before
      | inr then' ↦ inr (first.crash c then')
    ];
  }

  -- nothing is left that might not have been left at first
  pub kept_as_it_was : (calls : ℕ) (old new : D) → ((c : List ℕ) → left_since old (clock old) c → may_leave old c) → clock new ≤ clock old + calls → IsLeftAlone seen may_leave clock left_since old new → IsKeptAsItWas seen may_leave clock left_since calls old new
  kept_as_it_was calls old new only soon alone = record {
    same = alone.same;
    soon = soon;
    now = alone.crash;
    meanwhile = record {
      later = alone.later;
      each = λ c left. ⊎_elim (only c) (λ (now : may_leave old c). now) (alone.since (clock old) c (omega arith) left);
    };
  }

  -- what was settled stays so
  pub settled_alone : (old new : D) → Leaves (seen old) (may_leave old) → IsLeftAlone seen may_leave clock left_since old new → Leaves (seen new) (may_leave new)
  settled_alone old new settled alone = λ c left. settled c (alone.crash c left) ∙ sym alone.same
