-- What is known of the first roles once their states came out of their locks.
use Rattle.std.specs.Prelude.{◌≡◌, ℕ, ◌≤◌, List, length, slice_get, Some, take}
use Rattle.bspl_types.specs.declared.envelope.Envelope.{Envelope}
use Rattle.bspl_types.specs.Limits.{role_limit}
use Rattle.adapter.specs.Desk.{DeskState}
use Rattle.adapter.specs.Kept.{IsKept}
use Rattle.adapter.specs.State.{IsOfTaken}
use Rattle.agent_scripts.specs.Job.{Job}
use Rattle.reorder_net.specs.Gathered.{AreGathered}
use Rattle.reorder_net.specs.Pass.{BoxId, PassState}
use Rattle.world_run.specs.Joined.{CountEntries}
use Rattle.world_run.specs.Told.{posted_to}

-- the desk is kept, and what it received goes back to what was taken
pub record IsReleased (job : Job) (role : ℕ) (taken : List Envelope) (d : DeskState) : Type 0 where
  pub kept : IsKept job role d
  pub of_taken : IsOfTaken taken d

-- these are the desks of the first roles, and the numbers of their entries; what each received goes
-- back to what its role took; the pass to each mailbox has what these roles posted to it
pub record AreReleased (job : Job) (boxes : List BoxId) (taken : ℕ → List Envelope)
    (desks : List DeskState) (counts : List ℕ) (passes : List PassState) : Type 0 where
  pub each : (role : ℕ) (d : DeskState) → slice_get desks role ≡ Some d →
      IsReleased job role (taken role) d
  pub counted : CountEntries desks counts
  pub gathered : AreGathered boxes (λ q. posted_to job q desks) taken (length desks) passes

-- the places of the first `count` roles have their desks; there is a place for each role
pub record HaveJoined (job : Job) (boxes : List BoxId) (count : ℕ) (places : List DeskState)
    (counts : List ℕ) (passes : List PassState) : Type 0 where
  pub within : count ≤ length places
  pub roles : length places ≡ length job.protocol.roles
  pub mailboxes : length boxes ≡ length job.protocol.roles
  pub room : length counts ≡ role_limit
  pub taken : ℕ → List Envelope
  pub released : AreReleased job boxes taken (take count places) counts passes
