-- What contracts see of a worker, and from which generator it draws.
use Rattle.std.specs.Prelude.{◌≡◌, ℕ, zero, suc, ◌+◌, ◌*◌, bit_xor}
use Rattle.rand_core.specs.Pcg32Seed.{pcg32_seed}
use Rattle.rand_pcg.specs.Lcg.{Lcg}
use Rattle.rand_pcg.specs.Pcg.{pcg32, pcg32_of_seed}
use Rattle.agent_scripts.specs.Job.{Job}

-- a thread of a role, and the generator by which it picks envelopes
pub record WorkerState : Type 0 where
  pub role : ℕ
  pub thread : ℕ
  pub generator : Lcg

-- it is the same thread of the same role
pub record IsSameThread (old new : WorkerState) : Type 0 where
  pub role : new.role ≡ old.role
  pub thread : new.thread ≡ old.thread

-- the generator with which a worker begins: that of the plan's seed, with the bits of the worker's
-- number exchanged
abbrev pub worker_generator : Job → ℕ → ℕ → Lcg
worker_generator job role thread =
    pcg32_of_seed (pcg32_seed 16 (bit_xor job.plan.seed (8 * role + thread)))

-- the generator after so many words
abbrev pub after_words : Lcg → ℕ → Lcg
after_words g zero = g
after_words g (suc k) = (pcg32 (after_words g k)).1

-- the generator is the first one after some number of words
pub record IsDrawnFrom (first g : Lcg) : Type 0 where
  pub words : ℕ
  pub after : g ≡ after_words first words
