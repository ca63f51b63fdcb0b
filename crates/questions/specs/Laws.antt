-- How questions stand to what else is said of enactments. Each statement is the contract of a public
-- function.
use Rattle.std.specs.Prelude.{◌≡◌, ◌↔◌, ℕ, List, []}
use Rattle.std.specs.List.{Contains}
use Rattle.bspl_types.specs.declared.event.Event.{Event}
use Rattle.bspl_types.specs.declared.event.Event.TheVariants.{Emit}
use Rattle.bspl_types.specs.declared.event.Instance.{Instance}
use Rattle.bspl_types.specs.declared.expanded.Expanded.{Expanded}
use Rattle.bspl_types.specs.declared.value.Value.{Value}
use Rattle.bspl_types.specs.History.{IsRun}
use Rattle.enactment_model.specs.Legal.{IsLegalRun}
use Rattle.enactment_model.specs.Liveness.{Quiet}
use Rattle.enactment_model.specs.Safety.{Agree}
use Rattle.questions.specs.declared.question.Happening.TheVariants as happenings
use Rattle.questions.specs.declared.question.Question.TheVariants as asks
use Rattle.questions.specs.Answer.{ComesToRest, IsPossible}

-- a quiet enactment comes to rest, with no message excused
abbrev pub QuietIsAtRest : Type 0
QuietIsAtRest =
    (x : Expanded) (run : List Event) (key : List Value) → Quiet x run key →
    ComesToRest x run key []

-- an enactment that comes to rest is quiet if the roles agree: then a message has one instance
abbrev pub AtRestIsQuiet : Type 0
AtRestIsQuiet =
    (x : Expanded) (run : List Event) (key : List Value) → IsRun x run → Agree x run →
    ComesToRest x run key [] → Quiet x run key

-- it is possible that the message was sent exactly if some legal run emits it
abbrev pub DeadIsAQuestion : Type 0
DeadIsAQuestion =
    (x : Expanded) (m : ℕ) →
    (IsPossible x (asks.Happened (happenings.Sent m))) ↔
    ((run : List Event) × (i : Instance) × IsLegalRun x run × Contains run (Emit i) ×
    (i.message ≡ m))
