-- One step more of a course.
use Rattle.std.proofs.Common.{◌≡◌, ℕ, suc, ◌+◌, Result, Ok, Err, arith, refl, subst}
use Rattle.std.specs.Prelude.{OnOk}
use Rattle.agent_scripts.specs.Job.{Job}
use Rattle.world_run.specs.Course.{AreSteps, IsPlay, IsRound, PlayState}

-- after the first steps comes that of the next number
pub step_more : {S : Type 0} (step : ℕ → S → S → Type 0) (k : ℕ) (old middle new : S) → AreSteps step k old middle → step k middle new → AreSteps step (k + 1) old new
step_more step k old middle new before next =
    let same : suc k ≡ k + 1 = omega (arith) in
    subst (λ (n : ℕ). AreSteps step n old new) same (middle, before, next)

-- a play of no round
pub no_rounds : (job : Job) (old : PlayState) → IsPlay job old old
no_rounds job old = record { rounds = 0; each = refl }

-- after a play comes a round
pub round_more : (job : Job) (old middle new : PlayState) → IsPlay job old middle → IsRound job middle new → IsPlay job old new
round_more job old middle new before next =
    record { rounds = before.rounds + 1; each = step_more (λ _. IsRound job) before.rounds old middle new before.each next }

-- what follows of an `Ok`
pub on_ok_then : {A E : Type 0} (r : Result A E) (P Q : Type 0) → (P → Q) → OnOk r P → OnOk r Q
on_ok_then (Ok x) P Q from p = from p
on_ok_then (Err e) P Q from p = p
