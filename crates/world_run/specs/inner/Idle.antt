-- When the agent of a desk has nothing left to do.
use Rattle.std.specs.Prelude.{◌≡◌, ℕ, List, [], None, Some, slice_get}
use Rattle.adapter.specs.Desk.{DeskState}
use Rattle.adapter.specs.Next.{IsNext, IsWorkload}
use Rattle.agent_scripts.specs.Job.{Job}

-- nothing is held, and at the workload number nothing can be emitted
pub record IsIdleAt (job : Job) (d : DeskState) (n : ℕ) : Type 0 where
  pub empty : d.inbox.envelopes ≡ []
  pub done : IsNext job d.store n None

-- the role's desk is idle at the number
abbrev pub IsIdleRoleAt : Job → List DeskState → ℕ → ℕ → Type 0
IsIdleRoleAt job desks role n = (d : DeskState) → slice_get desks role ≡ Some d → IsIdleAt job d n

-- the role's desk holds nothing
abbrev pub HoldsNothing : List DeskState → ℕ → Type 0
HoldsNothing desks role =
    (d : DeskState) → slice_get desks role ≡ Some d → d.inbox.envelopes ≡ []

-- the role's agent can emit nothing at the number
abbrev pub EmitsNothing : Job → List DeskState → ℕ → ℕ → Type 0
EmitsNothing job desks role n =
    (d : DeskState) → slice_get desks role ≡ Some d → IsNext job d.store n None

-- at each workload number
abbrev pub IsIdle : Job → DeskState → Type 0
IsIdle job d = (n : ℕ) → IsWorkload job n → IsIdleAt job d n

-- the role's desk is idle
abbrev pub IsIdleRole : Job → List DeskState → ℕ → Type 0
IsIdleRole job desks role = (d : DeskState) → slice_get desks role ≡ Some d → IsIdle job d

-- all are
abbrev pub AreIdle : Job → List DeskState → Type 0
AreIdle job desks = (role : ℕ) → IsIdleRole job desks role
