-- Which locks there are, what is not locked yet, and what all locked states share.
use Rattle.std.specs.Prelude.{◌≡◌, ◌↔◌, ℕ, ◌<◌, ◌≤◌, min, List, length, slice_get, Option, Some}
use Rattle.std.specs.Prelude.{IsSome}
use Rattle.adapter.specs.Desk.{DeskState}
use Rattle.agent_scripts.specs.Job.{Job}
use Rattle.reorder_net.specs.declared.passes.RolePasses.{RolePasses}
use Rattle.reorder_net.specs.Pass.{BoxId}
use Rattle.reorder_net.specs.Passes.{AreFresh}
use Rattle.world_run.specs.inner.Opened.{IsOpened}

-- there is a lock exactly if the role exists
abbrev pub HasLock : {X : Type 0} → ℕ → ℕ → Option X → Type 0
HasLock role roles lock = (role < roles) ↔ IsSome lock

-- these are the opened desks and the unused passes of the first `count` roles, or of all roles if
-- there are fewer
pub record AreUnlocked (job : Job) (boxes : List BoxId) (count : ℕ) (desks : List DeskState)
    (passes : List RolePasses) : Type 0 where
  pub mailboxes : length boxes ≡ length job.protocol.roles
  pub desk_count : length desks ≡ min count (length job.protocol.roles)
  pub pass_count : length passes ≡ length desks
  pub opened : (role : ℕ) (d : DeskState) → slice_get desks role ≡ Some d → IsOpened job role d
  pub fresh : (role : ℕ) (p : RolePasses) → slice_get passes role ≡ Some p → AreFresh boxes role p

-- each role has one to eight threads; there is a mailbox for each role, and a place for its desk
pub record AreShared (job : Job) (boxes : List BoxId) (threads : ℕ) (places : List DeskState)
    : Type 0 where
  pub some_threads : 0 < threads
  pub few_threads : threads ≤ 8
  pub mailboxes : length boxes ≡ length job.protocol.roles
  pub roles : length places ≡ length job.protocol.roles
