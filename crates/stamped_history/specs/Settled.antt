-- When the agents have nothing left to do.
use Rattle.std.specs.Prelude.{◌≡◌, ℕ, false, List}
use Rattle.std.specs.List.{Contains}
use Rattle.bspl_types.specs.declared.event.Event.{Event}
use Rattle.bspl_types.specs.declared.event.Event.TheVariants.{Emit, Receive}
use Rattle.bspl_types.specs.declared.event.Instance.{Instance}
use Rattle.bspl_types.specs.declared.expanded.Expanded.{Expanded}
use Rattle.bspl_types.specs.declared.value.Value.{Value}
use Rattle.bspl_types.specs.Expansion.{message_of}
use Rattle.bspl_types.specs.History.{history_of}
use Rattle.bspl_types.specs.Knowledge.{CanEmit}
use Rattle.enactment_model.specs.Liveness.{IsEmitted}
use Rattle.stamped_history.specs.Rules.{IsNumber, Rules}

-- what is emitted and not lost is received; what is not declined and not emitted cannot be emitted
pub record Settled (x : Expanded) (rules : Rules) (run : List Event) : Type 0 where
  pub delivered : (n : ℕ) (i : Instance) → IsNumber rules n i.key → Contains run (Emit i) →
      rules.loses i.message n ≡ false → Contains run (Receive i)
  pub exhausted : (n m : ℕ) (key : List Value) → IsNumber rules n key →
      rules.declines m n ≡ false → ¬ IsEmitted run key m →
      ¬ CanEmit x (history_of x (message_of x m).sender run) m key

-- the same, by the senders' and the receivers' own histories
pub record HistoriesSettled (x : Expanded) (rules : Rules) (history : ℕ → List Event)
    : Type 0 where
  pub delivered : (n : ℕ) (i : Instance) → IsNumber rules n i.key →
      Contains (history (message_of x i.message).sender) (Emit i) →
      rules.loses i.message n ≡ false →
      Contains (history (message_of x i.message).receiver) (Receive i)
  pub exhausted : (n m : ℕ) (key : List Value) → IsNumber rules n key →
      rules.declines m n ≡ false → ¬ IsEmitted (history (message_of x m).sender) key m →
      ¬ CanEmit x (history (message_of x m).sender) m key
