-- Which acts a role can do.
use Rattle.std.specs.Prelude.{◌≡◌, ℕ, ◌<◌, List, length}
use Rattle.std.specs.List.{Contains}
use Rattle.bspl_types.specs.declared.envelope.Stamped.{Stamped}
use Rattle.bspl_types.specs.declared.expanded.Expanded.{Expanded}
use Rattle.bspl_types.specs.declared.value.Value.{Value}
use Rattle.bspl_types.specs.Choice.{chosen_params}
use Rattle.bspl_types.specs.Expansion.{message_of}
use Rattle.bspl_types.specs.Instance.{Fits}
use Rattle.local_store.specs.Emission.{IsAttempt}
use Rattle.local_store.specs.Reception.{IsArrival}
use Rattle.local_store.specs.State.{AddsKey, StoreState}
use Rattle.stamped_history.specs.Entries.{clock_limit, last_stamp}
use Rattle.wire_form.specs.declared.act.Act.{Act}
use Rattle.wire_form.specs.declared.act.Act.TheVariants.{Arrival, Attempt}
use Rattle.role_server.specs.Replies.{stamp_of}

-- the message is one of the role's, with a value for each key and for each choice of its sender
pub record IsOwnAttempt (x : Expanded) (role message : ℕ) (key outs : List Value) : Type 0 where
  pub known : message < length x.messages
  pub own : (message_of x message).sender ≡ role
  pub whole_key : length key ≡ length x.keys
  pub chosen : length outs ≡ length (chosen_params x message)

-- the message fits and is to the role
pub record IsOwnArrival (x : Expanded) (role : ℕ) (m : Stamped) : Type 0 where
  pub fits : Fits x m.instance
  pub own : (message_of x m.instance.message).receiver ≡ role

-- the act is one of the role's
abbrev pub IsOwn : Expanded → ℕ → Act → Type 0
IsOwn x role (Arrival m) = IsOwnArrival x role m
IsOwn x role (Attempt message key outs) = IsOwnAttempt x role message key outs

-- the store can do the act
abbrev pub IsReady : StoreState → Act → Type 0
IsReady s (Arrival m) = IsArrival s m
IsReady s (Attempt message key outs) = IsAttempt s message key outs

-- the key is held, and nothing else changed
pub record HoldsKey (old : StoreState) (key : List Value) (new : StoreState) : Type 0 where
  pub adds : AddsKey old key new
  pub held : Contains new.keys key
  pub same : new ≡ record old { keys = new.keys }

-- the clock and the stamp that comes are below their last value
pub record IsBeforeLast (s : StoreState) (act : Act) : Type 0 where
  pub clock : last_stamp s.entries < clock_limit
  pub stamp : stamp_of act < clock_limit
