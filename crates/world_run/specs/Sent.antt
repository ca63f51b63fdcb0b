-- Which messages of inboxes were sent.
use Rattle.std.specs.Prelude.{◌≡◌, ℕ, List, slice_get, Some}
use Rattle.std.specs.List.{All}
use Rattle.bspl_types.specs.declared.envelope.Stamped.{Stamped}
use Rattle.bspl_types.specs.declared.event.Event.TheVariants.{Emit}
use Rattle.bspl_types.specs.declared.expanded.Expanded.{Expanded}
use Rattle.bspl_types.specs.Expansion.{message_of}
use Rattle.adapter.specs.Desk.{DeskState}
use Rattle.stamped_history.specs.declared.entry.Entry.{Entry}
use Rattle.stamped_history.specs.Explained.{history_at}
use Rattle.world_run.specs.World.{histories_of}

-- the sender's entry of the message's number is its emission, with the message's stamp
pub record IsSent (x : Expanded) (histories : List (List Entry)) (m : Stamped) : Type 0 where
  pub emission : Entry
  pub numbered : slice_get (history_at histories (message_of x m.instance.message).sender) m.number
      ≡ Some emission
  pub emitted : emission.event ≡ Emit m.instance
  pub stamped : emission.stamp ≡ m.stamp

-- what every inbox holds was sent
abbrev pub AreSent : Expanded → List DeskState → Type 0
AreSent x desks = (role : ℕ) (d : DeskState) → slice_get desks role ≡ Some d →
    All (λ e. IsSent x (histories_of desks) e.message) d.inbox.envelopes
