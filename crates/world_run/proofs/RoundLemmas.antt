-- Steps one after another.
use Rattle.std.proofs.Common.{◌≡◌, ℕ, ◌+◌, ◌<◌, Bool, true, false, None, Some, List, [], length, slice_get, inl, inr, refl, sym, subst, arith}
use Rattle.std.specs.Prelude.{◌||◌}
use Rattle.std.proofs.lemmas.Bool.{cases_eq}
use Rattle.adapter.specs.Desk.{DeskState}
use Rattle.adapter.specs.Next.{IsNext}
use Rattle.agent_scripts.specs.Job.{Job}
use Rattle.world_run.specs.World.{histories_of}
use Rattle.world_run.specs.inner.Idle.{IsIdleAt}
use Rattle.world_run.specs.inner.Steps.{IsProgress}
use Rattle.world_run.specs.inner.InProgress.{AreSound, AreWhole, Extend}
use Rattle.world_run.specs.inner.Work.{work_left}
use Rattle.world_run.proofs.GrowLemmas.{grow_none, grow_twice}

-- no step
pub extend_none : (job : Job) (desks : List DeskState) → AreSound job desks → Extend job desks desks
extend_none job desks sound = record { sound = sound; grow = grow_none (histories_of desks) }

-- sound desks are as many as before
pub still_within : (job : Job) (old new : List DeskState) (role : ℕ) → AreSound job old → AreSound job new → role < length old → role < length new
still_within job old new role before after within = omega (arith, before.kept.count, after.kept.count, within)

-- no progress
pub progress_none : (job : Job) (desks : List DeskState) → AreWhole job desks → IsProgress job desks false desks
progress_none job desks whole = record { whole = whole; less = λ acted. absurd (cc); same = λ rested. refl }

-- two steps
pub extend_twice : (job : Job) (old mid new : List DeskState) → Extend job old mid → Extend job mid new → Extend job old new
extend_twice job old mid new first second =
    record { sound = second.sound; grow = grow_twice (histories_of old) (histories_of mid) (histories_of new) first.grow second.grow }

-- a second step that did something
pub progress_acted : (job : Job) (old mid new : List DeskState) (acted : Bool) → IsProgress job old acted mid → IsProgress job mid true new → IsProgress job old true new
progress_acted job old mid new true first second =
    record { whole = second.whole; less = λ acted. omega (arith, first.less refl, second.less refl); same = λ rested. absurd (cc) }
progress_acted job old mid new false first second =
    record { whole = second.whole; less = λ acted. subst (λ ds. work_left new < work_left ds) (first.same refl) (second.less refl); same = λ rested. absurd (cc) }

-- a second step that did nothing
pub progress_rested : (job : Job) (old mid new : List DeskState) (acted : Bool) → IsProgress job old acted mid → IsProgress job mid false new → IsProgress job old acted new
progress_rested job old mid new acted first second =
    subst (IsProgress job old acted) (sym (second.same refl)) first

-- two steps, of which one or none did something
pub progress_twice : (job : Job) (old mid new : List DeskState) (a b : Bool) → IsProgress job old a mid → IsProgress job mid b new → IsProgress job old (a || b) new
progress_twice job old mid new true true first second = progress_acted job old mid new true first second
progress_twice job old mid new false true first second = progress_acted job old mid new false first second
progress_twice job old mid new true false first second = progress_rested job old mid new true first second
progress_twice job old mid new false false first second = progress_rested job old mid new false first second

-- the steps at the first indices; if none did something, at each of these nothing is left to do
pub record StepsTo (Idle : List DeskState → ℕ → Type 0) (job : Job) (old : List DeskState) (acted : Bool) (new : List DeskState) (count : ℕ) : Type 0 where
  pub extend : Extend job old new
  pub progress : IsProgress job old acted new
  pub idle : acted ≡ false → (k : ℕ) → k < count → Idle new k

-- before the first one
pub steps_none : (Idle : List DeskState → ℕ → Type 0) (job : Job) (desks : List DeskState) → AreSound job desks → AreWhole job desks → StepsTo Idle job desks false desks 0
steps_none Idle job desks sound whole =
    record {
      extend = extend_none job desks sound;
      progress = progress_none job desks whole;
      idle = λ rested k within. absurd (omega (arith, within));
    }

-- if one or the other is false, both are
both_false : (a b : Bool) → (a || b) ≡ false → (a ≡ false) × (b ≡ false)
both_false true b neither = absurd (cc)
both_false false b neither = (refl, neither)

-- one more
pub steps_more : (Idle : List DeskState → ℕ → Type 0) (job : Job) (old mid new : List DeskState) (a b : Bool) (count : ℕ) → StepsTo Idle job old a mid count → Extend job mid new → IsProgress job mid b new → (b ≡ false → Idle new count) → StepsTo Idle job old (a || b) new (count + 1)
steps_more Idle job old mid new a b count first extend progress idle =
    record {
      extend = extend_twice job old mid new first.extend extend;
      progress = progress_twice job old mid new a b first.progress progress;
      idle = λ rested k within. elim (cases_eq k count) [
        | inl same ↦ subst (Idle new) (sym same) (idle (both_false a b rested).1)
        | inr other ↦ subst (λ ds. Idle ds k) (sym (progress.same (both_false a b rested).1)) (first.idle (both_false a b rested).0 k (omega (arith, within, other)))
      ];
    }

-- after a turn in which nothing was taken and nothing emitted, the role is idle at the number
pub idle_turn : (job : Job) (middle new : List DeskState) (role n : ℕ) (taken emitted : Bool) → (taken ≡ false → (d : DeskState) → slice_get middle role ≡ Some d → d.inbox.envelopes ≡ []) → IsProgress job middle emitted new → (emitted ≡ false → (d : DeskState) → slice_get new role ≡ Some d → IsNext job d.store n None) → (taken || emitted) ≡ false → (d : DeskState) → slice_get new role ≡ Some d → IsIdleAt job d n
idle_turn job middle new role n taken emitted empty progress done rested d at =
    let both = both_false taken emitted rested in
    record { empty = empty both.0 d (subst (λ ds. slice_get ds role ≡ Some d) (progress.same both.1) at); done = done both.1 d at }
