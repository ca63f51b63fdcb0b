-- What the loop over the events has found.
use Rattle.std.proofs.Common.{◌≡◌, take}
use Rattle.std.specs.List.{Contains}
use Rattle.bspl_types.specs.declared.event.Event.TheVariants.{Emit, Receive}
use Rattle.bspl_types.specs.declared.event.Instance.{Instance}
use Rattle.run_index.proofs.rest.is_unreceived.Given as goal

-- what the events so far emit of the message under the key is received in the run
abbrev pub invariant-loop-event : goal.invariant-loop-event
invariant-loop-event l =
    (i : Instance) → i.message ≡ l.message → i.key ≡ l.key → Contains (take l.event-index l.events) (Emit i) → Contains l.index (Receive i)
