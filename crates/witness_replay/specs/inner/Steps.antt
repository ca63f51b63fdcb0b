-- What has to have happened before an event of a kind.
use Rattle.std.specs.Prelude.{◌≡◌, ℕ, ◌<◌, ◌≤◌, List}
use Rattle.std.specs.List.{Contains}
use Rattle.bspl_types.specs.declared.event.Event.{Event}
use Rattle.bspl_types.specs.declared.event.Event.TheVariants.{Emit}
use Rattle.bspl_types.specs.declared.event.Instance.{Instance}
use Rattle.bspl_types.specs.declared.expanded.Expanded.{Expanded}
use Rattle.bspl_types.specs.Knowledge.{CanEmit}
use Rattle.bspl_types.specs.History.{sender_history}
use Rattle.clause_encoding.specs.Variables.{kind_count, received, sent}
use Rattle.witness_replay.specs.Witness.{key_of_ones}

-- the instance is the message's and was emitted
pub record IsEmissionOf (before : List Event) (m : ℕ) (instance : Instance) : Type 0 where
  pub message : instance.message ≡ m
  pub among : Contains before (Emit instance)

-- an instance of the message was emitted
abbrev pub HasEmission : List Event → ℕ → Type 0
HasEmission before m = (instance : Instance) × IsEmissionOf before m instance

-- after these events a message of the kind can be emitted, or was
pub record MayHappen (x : Expanded) (before : List Event) (kind : ℕ) : Type 0 where
  pub from_one : 0 < kind
  pub up_to : kind ≤ kind_count x
  pub sending : (m : ℕ) → kind ≡ sent m →
      CanEmit x (sender_history x before m) m (key_of_ones x)
  pub receiving : (m : ℕ) → kind ≡ received m → HasEmission before m
