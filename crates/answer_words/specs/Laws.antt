-- What the words name is there. Each statement is the contract of a function.
use Rattle.std.specs.Prelude.{ℕ, ◌-◌, List, take}
use Rattle.bspl_types.specs.declared.event.Event.{Event}
use Rattle.bspl_types.specs.declared.expanded.Expanded.{Expanded}
use Rattle.bspl_types.specs.declared.protocol.Adornment.TheVariants.{Out}
use Rattle.bspl_types.specs.declared.value.Value.{Value}
use Rattle.bspl_types.specs.Expansion.{IsAdorned}
use Rattle.bspl_types.specs.History.{history_of}
use Rattle.bspl_types.specs.Knowledge.{IsKnown}
use Rattle.enactment_model.specs.Safety.{Conflict}
use Rattle.verdict.specs.Right.{IsUnsafeVerdict}
use Rattle.verdict.specs.RightLiveness.{IsNotLiveVerdict}
use Rattle.answer_words.specs.Messages.{nth_message}
use Rattle.answer_words.specs.Producers.{AreBlocked}

-- the two events of the run are in conflict, their messages produce the parameter, and the sender
-- of the second does not know it before
pub record Clash (x : Expanded) (run : List Event) (param first second : ℕ) : Type 0 where
  pub key : List Value
  pub conflict : Conflict x run key param (first - 1) (second - 1)
  pub one : IsAdorned (nth_message x run first) Out param
  pub other : IsAdorned (nth_message x run second) Out param
  pub unknown : let sender = (nth_message x run second).sender in
      ¬ IsKnown x (history_of x sender (take (second - 1) run)) key param

-- so it is with the events that a right verdict names
abbrev pub NamedEventsClash : Type 0
NamedEventsClash =
    (x : Expanded) (run : List Event) (param first second : ℕ) →
    IsUnsafeVerdict x run param first second → Clash x run param first second

-- what could produce the parameter of a right verdict is blocked after its run
abbrev pub ProducersAreBlocked : Type 0
ProducersAreBlocked =
    (x : Expanded) (run : List Event) (param : ℕ) → IsNotLiveVerdict x run param →
    AreBlocked x run param
