-- How much room the desks of a new world have.
use Rattle.std.specs.Prelude.{◌≡◌, ℕ, ◌+◌, ◌*◌, ◌==◌, ◌||◌, ◌≤◌, List, [], length, slice_get, Some}
use Rattle.std.specs.List.{filter}
use Rattle.bspl_types.specs.declared.protocol.Message.{Message}
use Rattle.adapter.specs.Desk.{DeskState}
use Rattle.adapter.specs.Kept.{IsKept}
use Rattle.agent_scripts.specs.Job.{Job}
use Rattle.local_store.specs.State.{StoreState}

-- the messages that the role sends or receives
abbrev pub own : List Message → ℕ → List Message
own messages role = filter (λ m. m.sender == role || m.receiver == role) messages

-- the messages that go to the role
abbrev pub incoming : List Message → ℕ → List Message
incoming messages role = filter (λ m. m.receiver == role) messages

-- how many events the role can have under the workload keys
abbrev pub events_of_role : Job → ℕ → ℕ
events_of_role job role = length job.script.keys * length (own job.protocol.messages role)

-- how many envelopes can go to the role under the workload keys
abbrev pub envelopes_to : Job → ℕ → ℕ
envelopes_to job role = length job.script.keys * length (incoming job.protocol.messages role)

-- the role's store before the run: it holds the workload keys and has room for one event more than
-- there can be
abbrev pub opened_store : Job → ℕ → StoreState
opened_store job role = record {
  protocol = job.protocol;
  role = role;
  keys = job.script.keys;
  entries = [];
  spare = events_of_role job role + 1;
}

-- a kept desk with that store, without envelopes, and with room for all that can go to the role
pub record IsOpened (job : Job) (role : ℕ) (d : DeskState) : Type 0 where
  pub kept : IsKept job role d
  pub store : d.store ≡ opened_store job role
  pub no_envelopes : d.inbox.envelopes ≡ []
  pub envelopes : envelopes_to job role ≤ d.inbox.spare

-- one such desk for each role
pub record AreOpened (job : Job) (desks : List DeskState) : Type 0 where
  pub count : length desks ≡ length job.protocol.roles
  pub each : (role : ℕ) (d : DeskState) → slice_get desks role ≡ Some d → IsOpened job role d
