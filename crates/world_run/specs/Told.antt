-- What the rules of the mailboxes tell once all passes are joined, and what it explains.
use Rattle.std.specs.Prelude.{◌≡◌, ℕ, ◌<◌, List, length, map, slice_get, Some}
use Rattle.std.specs.List.{enumerate_from}
use Rattle.bspl_types.specs.declared.envelope.Envelope.{Envelope}
use Rattle.adapter.specs.Desk.{DeskState}
use Rattle.adapter.specs.Posted.{posted_by}
use Rattle.adapter.specs.State.{IsOfTaken}
use Rattle.agent_scripts.specs.Job.{Job}
use Rattle.reorder_net.specs.Gathered.{IsTold}
use Rattle.stamped_history.specs.Explained.{AreExplained}
use Rattle.world_run.specs.World.{AreKept, histories_of}

-- what each role's history posted to role `q`, in order of the roles
abbrev pub posted_to : Job → ℕ → List DeskState → List (List Envelope)
posted_to job q desks =
    map (λ (role, d). posted_by job role q d.store.entries) (enumerate_from 0 desks)

-- the desks are kept, and what each received goes back to what its role took out of its mailbox;
-- the rule of that mailbox speaks of what all histories posted to it, and of what was taken
pub record AreTold (job : Job) (taken : ℕ → List Envelope) (desks : List DeskState) : Type 0 where
  pub kept : AreKept job desks
  pub of_taken : (role : ℕ) (d : DeskState) → slice_get desks role ≡ Some d →
      IsOfTaken (taken role) d
  pub told : (role : ℕ) → role < length desks →
      IsTold job role (posted_to job role desks) (taken role)

-- then all receipts of the desks are explained
abbrev pub ToldHistoriesExplain : Type 0
ToldHistoriesExplain = (job : Job) (taken : ℕ → List Envelope) (desks : List DeskState) →
    AreTold job taken desks → AreExplained job.protocol (histories_of desks)
