-- Marks on messages that cover all that can be sent, also if what a role must not know forbade
-- nothing. A marked message is reached.
use Rattle.std.specs.Prelude.{◌≡◌, ℕ, ◌<◌, ◌⊎◌, Bool, true, List, Some, length, slice_get}
use Rattle.bspl_types.specs.declared.expanded.Expanded.{Expanded}
use Rattle.bspl_types.specs.declared.protocol.Adornment.TheVariants.{In}
use Rattle.bspl_types.specs.declared.protocol.Message.{Message}
use Rattle.bspl_types.specs.Adornment.{Binds}
use Rattle.bspl_types.specs.Expansion.{IsAdorned, message_of}
use Rattle.enactability.specs.Enactable.{Enactable}

-- the message of that number is reached
abbrev pub IsReached : List Bool → ℕ → Type 0
IsReached reach m = slice_get reach m ≡ Some true

-- the message binds the parameter, and the role sends or receives it: a sender tells itself
pub record Tells (m : Message) (role p : ℕ) : Type 0 where
  pub party : (m.sender ≡ role) ⊎ (m.receiver ≡ role)
  pub binds : Binds m.carried p

-- a reached message tells the role the parameter
pub record IsTold (x : Expanded) (reach : List Bool) (role p : ℕ) : Type 0 where
  pub m : ℕ
  pub known : m < length x.messages
  pub reached : IsReached reach m
  pub tells : Tells (message_of x m) role p

-- the message has an `in` parameter that no reached message tells its sender
pub record Lacks (x : Expanded) (reach : List Bool) (m : Message) : Type 0 where
  pub p : ℕ
  pub needed : IsAdorned m In p
  pub untold : ¬ IsTold x reach m.sender p

-- each message is reached, or no reached message tells its sender one of its `in` parameters
abbrev pub IsClosed : Expanded → List Bool → Type 0
IsClosed x reach =
    (m : ℕ) → m < length x.messages → IsReached reach m ⊎ Lacks x reach (message_of x m)

-- if the marks are closed, each message that some legal run emits is reached
abbrev pub EnactableIsReached : Type 0
EnactableIsReached =
    (x : Expanded) (reach : List Bool) (m : ℕ) → IsClosed x reach → Enactable x m →
    IsReached reach m
