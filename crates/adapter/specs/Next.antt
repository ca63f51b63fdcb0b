-- Which message a role's agent emits next at a workload number.
use Rattle.std.specs.Prelude.{◌≡◌, ℕ, ◌<◌, ◌≤◌, ◌⊎◌, true, false, Option, None, Some, List, ◌∷◌}
use Rattle.std.specs.Prelude.{◌++◌, length}
use Rattle.std.specs.List.{All}
use Rattle.bspl_types.specs.declared.value.Value.{Value}
use Rattle.bspl_types.specs.Knowledge.{CanEmit}
use Rattle.enactment_model.specs.Liveness.{IsEmitted}
use Rattle.agent_scripts.specs.Job.{Job}
use Rattle.agent_scripts.specs.Script.{is_declined, Script}
use Rattle.local_store.specs.State.{StoreState, acts_of}
use Rattle.adapter.specs.Desk.{DeskState}
use Rattle.adapter.specs.Kept.{IsKept}
use Rattle.adapter.specs.Rules.{key_of, rules_of}

-- the number is one of a workload key
pub record IsWorkload (job : Job) (n : ℕ) : Type 0 where
  pub some : 0 < n
  pub within : n ≤ length job.script.keys

-- the desk is kept for the job and its role, and the number is one of a workload key
pub record IsAtWork (job : Job) (d : DeskState) (n : ℕ) : Type 0 where
  pub kept : IsKept job d.store.role d
  pub number : IsWorkload job n

-- the message is declined at the number, was emitted under the key, or cannot be emitted
abbrev pub IsPassedOver : Script → StoreState → ℕ → List Value → ℕ → Type 0
IsPassedOver script s n key m =
    (is_declined script m n ≡ true) ⊎ (IsEmitted (acts_of s) key m ⊎
    (¬ CanEmit s.protocol (acts_of s) m key))

-- it is not declined, was never emitted under the key, and can be emitted
pub record CanEmitNext (script : Script) (s : StoreState) (n : ℕ) (key : List Value) (m : ℕ)
    : Type 0 where
  pub accepted : is_declined script m n ≡ false
  pub never : ¬ IsEmitted (acts_of s) key m
  pub can : CanEmit s.protocol (acts_of s) m key

-- of the order's messages it is the first one that can be emitted next
pub record IsFirstToEmit (script : Script) (s : StoreState) (n : ℕ) (key : List Value)
    (order : List ℕ) (m : ℕ) : Type 0 where
  pub before : List ℕ
  pub after : List ℕ
  pub split : order ≡ before ++ m ∷ after
  pub passed : All (IsPassedOver script s n key) before
  pub ready : CanEmitNext script s n key m

-- the first message of the role's order that can be emitted next, or none if all are passed over
abbrev pub IsNext : Job → StoreState → ℕ → Option ℕ → Type 0
IsNext job s n None =
    All (IsPassedOver job.script s n (key_of job n)) ((rules_of job).order s.role)
IsNext job s n (Some m) =
    IsFirstToEmit job.script s n (key_of job n) ((rules_of job).order s.role) m
