-- What contracts see of a desk.
use Rattle.local_store.specs.State.{StoreState}
use Rattle.reorder_net.specs.Inbox.{Inbox}

-- a role's store, and the envelopes that it can take
pub record DeskState : Type 0 where
  pub store : StoreState
  pub inbox : Inbox
