-- Which runs the agents play.
use Rattle.std.specs.Prelude.{◌≡◌, ℕ, ◌⊎◌, true, false, List, ◌∷◌, ◌++◌}
use Rattle.std.specs.List.{All, Contains}
use Rattle.bspl_types.specs.declared.event.Event.{Event}
use Rattle.bspl_types.specs.declared.event.Event.TheVariants.{Emit, Receive}
use Rattle.bspl_types.specs.declared.event.Instance.{Instance}
use Rattle.bspl_types.specs.declared.expanded.Expanded.{Expanded}
use Rattle.bspl_types.specs.declared.protocol.Adornment.TheVariants.{Out}
use Rattle.bspl_types.specs.declared.value.Value.{Value}
use Rattle.bspl_types.specs.Expansion.{message_of}
use Rattle.bspl_types.specs.History.{history_of, instance_of}
use Rattle.bspl_types.specs.Instance.{Carries}
use Rattle.bspl_types.specs.Knowledge.{CanEmit}
use Rattle.enactment_model.specs.Liveness.{IsEmitted}
use Rattle.stamped_history.specs.Rules.{IsNumber, Rules, TriesBefore}

-- the message was declined, was emitted before, or could not be emitted
abbrev pub IsPassed : Expanded → Rules → List Event → ℕ → ℕ → List Value → Type 0
IsPassed x rules before m n key =
    (rules.declines m n ≡ true) ⊎ (IsEmitted before key m ⊎
    (¬ CanEmit x (history_of x (message_of x m).sender before) m key))

-- the agent emits the first message that it may, with the values of its rules, and once
pub record IsChosen (x : Expanded) (rules : Rules) (before : List Event) (i : Instance)
    : Type 0 where
  pub accepted : (n : ℕ) → IsNumber rules n i.key → rules.declines i.message n ≡ false
  pub first : ¬ IsEmitted before i.key i.message
  pub values : (n p : ℕ) (v : Value) → IsNumber rules n i.key → Carries x i Out p v →
      ¬ Contains x.keys p → v ≡ rules.value i.message p n
  pub passed : (n m : ℕ) → IsNumber rules n i.key →
      TriesBefore rules (message_of x i.message).sender m i.message →
      IsPassed x rules before m n i.key

-- the message is not lost, and the instance was not received before
pub record IsDelivered (rules : Rules) (before : List Event) (i : Instance) : Type 0 where
  pub kept : (n : ℕ) → IsNumber rules n i.key → rules.loses i.message n ≡ false
  pub once : ¬ Contains before (Receive i)

-- an event that the agents play after those
abbrev pub IsPlayed : Expanded → Rules → List Event → Event → Type 0
IsPlayed x rules before (Emit i) = IsChosen x rules before i
IsPlayed x rules before (Receive i) = IsDelivered rules before i

-- all events are under workload keys, and the agents play each of them
pub record Played (x : Expanded) (rules : Rules) (run : List Event) : Type 0 where
  pub workload : All (λ e. Contains rules.keys (instance_of e).key) run
  pub events : (before after : List Event) (e : Event) → run ≡ before ++ e ∷ after →
      IsPlayed x rules before e
