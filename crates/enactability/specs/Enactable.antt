-- Which messages a protocol can enact.
use Rattle.std.specs.Prelude.{◌≡◌, ℕ, List}
use Rattle.std.specs.List.{Contains}
use Rattle.bspl_types.specs.declared.event.Event.{Event}
use Rattle.bspl_types.specs.declared.event.Event.TheVariants.{Emit}
use Rattle.bspl_types.specs.declared.event.Instance.{Instance}
use Rattle.bspl_types.specs.declared.expanded.Expanded.{Expanded}
use Rattle.enactment_model.specs.Legal.{IsLegalRun}

-- some legal run emits the message; if none does, the message is dead
pub record Enactable (x : Expanded) (m : ℕ) : Type 0 where
  pub run : List Event
  pub legal : IsLegalRun x run
  pub instance : Instance
  pub emitted : Contains run (Emit instance)
  pub message_is : instance.message ≡ m
