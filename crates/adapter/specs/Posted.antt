-- The envelopes that a role's history has posted to another role.
use Rattle.std.specs.Prelude.{ℕ, ◌+◌, ◌==◌, ◌&&◌, not, if◌then◌else◌, List, [], ◌∷◌}
use Rattle.std.specs.List.{flat_map}
use Rattle.bspl_types.specs.declared.envelope.Envelope.{Envelope}
use Rattle.bspl_types.specs.declared.envelope.Stamped.{Stamped}
use Rattle.bspl_types.specs.declared.event.Event.{Event}
use Rattle.bspl_types.specs.declared.event.Event.TheVariants.{Emit, Receive}
use Rattle.bspl_types.specs.declared.value.Value.{Value}
use Rattle.bspl_types.specs.Expansion.{message_of}
use Rattle.bspl_types.specs.Value.{equal_values}
use Rattle.stamped_history.specs.declared.entry.Entry.{Entry}
use Rattle.agent_scripts.specs.Job.{Job}
use Rattle.reorder_net.specs.Losses.{copies_of}

-- the message goes from the role to its receiver, in as many copies as the plan gives at the number
abbrev pub envelope_of : Job → ℕ → ℕ → Stamped → Envelope
envelope_of job role n m = record {
  to = (message_of job.protocol m.instance.message).receiver;
  from = role;
  message = m;
  copies = copies_of job.plan m.instance.message n;
}

-- the number, from 1, of the first of the keys that is this one
abbrev pub key_number : List (List Value) → List Value → ℕ
key_number [] key = 1
key_number (k ∷ keys) key = if equal_values k key then 1 else key_number keys key + 1

-- the envelope, if it goes to that role and is not lost
abbrev pub arriving : ℕ → Envelope → List Envelope
arriving q e = if e.to == q && not (e.copies == 0) then e ∷ [] else []

-- what an event with this stamp and this number posts to role q: an emission its envelope, if that
-- arrives there, and a receipt nothing
abbrev pub posted_by_event : Job → ℕ → ℕ → Event → ℕ → ℕ → List Envelope
posted_by_event job role q (Emit i) stamp number =
    arriving q (envelope_of job role (key_number job.script.keys i.key)
    (record { instance = i; stamp = stamp; number = number }))
posted_by_event job role q (Receive i) stamp number = []

-- the envelopes of the role's emissions to role q that the plan does not lose, in order
abbrev pub posted_by : Job → ℕ → ℕ → List Entry → List Envelope
posted_by job role q entries =
    flat_map (λ e. posted_by_event job role q e.event e.stamp e.number) entries
