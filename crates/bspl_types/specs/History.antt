-- A run has the events of all roles; a role's history is its part of a run.
use Rattle.std.specs.Prelude.{ℕ, List, ◌==◌}
use Rattle.std.specs.List.{All, filter}
use Rattle.bspl_types.specs.declared.event.Event.{Event}
use Rattle.bspl_types.specs.declared.event.Event.TheVariants.{Emit, Receive}
use Rattle.bspl_types.specs.declared.event.Instance.{Instance}
use Rattle.bspl_types.specs.declared.expanded.Expanded.{Expanded}
use Rattle.bspl_types.specs.Expansion.{message_of}
use Rattle.bspl_types.specs.Instance.{Fits}

-- what is emitted or received
abbrev pub instance_of : Event → Instance
instance_of (Emit i) = i
instance_of (Receive i) = i

-- the sender of an emission, or the receiver of a reception
abbrev pub role_of : Expanded → Event → ℕ
role_of x (Emit i) = (message_of x i.message).sender
role_of x (Receive i) = (message_of x i.message).receiver

-- each event's instance fits
abbrev pub IsRun : Expanded → List Event → Type 0
IsRun x run = All (λ e. Fits x (instance_of e)) run

-- the role's own acts, in order
abbrev pub history_of : Expanded → ℕ → List Event → List Event
history_of x role run = filter (λ e. role_of x e == role) run

-- the history of the message's sender
abbrev pub sender_history : Expanded → List Event → ℕ → List Event
sender_history x run m = history_of x (message_of x m).sender run
