-- What contracts see of the roles' states behind their locks, and the passes that these begin with.
use Rattle.std.specs.Prelude.{◌≡◌, ℕ, List, length, slice_get, Some}
use Rattle.agent_scripts.specs.Job.{Job}
use Rattle.reorder_net.specs.declared.passes.RolePasses.{RolePasses}
use Rattle.reorder_net.specs.Pass.{BoxId}
use Rattle.reorder_net.specs.Passes.{AreFresh}

-- how many threads each role has
pub record SharedState : Type 0 where
  pub threads : ℕ

-- there is a mailbox for each role of the job, and each role has unused passes to all of them
pub record AreNewPasses (job : Job) (boxes : List BoxId) (passes : List RolePasses) : Type 0 where
  pub mailboxes : length boxes ≡ length job.protocol.roles
  pub count : length passes ≡ length boxes
  pub fresh : (role : ℕ) (p : RolePasses) → slice_get passes role ≡ Some p → AreFresh boxes role p
