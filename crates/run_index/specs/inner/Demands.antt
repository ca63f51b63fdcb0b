-- What is asked of an event, given the events before it.
use Rattle.std.specs.Prelude.{◌≡◌, List}
use Rattle.std.specs.List.{Any}
use Rattle.bspl_types.specs.declared.event.Event.{Event}
use Rattle.bspl_types.specs.declared.event.Event.TheVariants.{Emit}
use Rattle.bspl_types.specs.declared.event.Instance.{Instance}
use Rattle.bspl_types.specs.declared.expanded.Expanded.{Expanded}
use Rattle.bspl_types.specs.Expansion.{message_of}
use Rattle.enactment_model.specs.Legal.{MayFollow}
use Rattle.enactment_model.specs.Producers.{SharesOut}
use Rattle.run_index.specs.FirstDisabled.{IsEnabledAfter}
use Rattle.run_index.specs.declared.demand.Demand.{Demand}
use Rattle.run_index.specs.declared.demand.Demand.TheVariants as demands

-- both are emissions under one key, and their messages produce one parameter
pub record IsRivalOf (x : Expanded) (event earlier : Event) : Type 0 where
  pub instance : Instance
  pub other : Instance
  pub event_is : event ≡ Emit instance
  pub earlier_is : earlier ≡ Emit other
  pub under : other.key ≡ instance.key
  pub shared : SharesOut (message_of x other.message) (message_of x instance.message)

-- the event may follow them; none of them is in conflict with it; or it is no emission that is not
-- enabled
abbrev pub Meets : Expanded → Demand → List Event → Event → Type 0
Meets x demands.MayFollow before event = MayFollow x before event
Meets x demands.Unrivalled before event = ¬ Any (IsRivalOf x event) before
Meets x demands.Enabled before event = IsEnabledAfter x before event
