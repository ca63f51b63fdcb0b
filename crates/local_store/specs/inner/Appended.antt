-- Which event a store can append.
use Rattle.std.specs.Prelude.{◌≡◌, ℕ, ◌<◌, slice_get, Some}
use Rattle.bspl_types.specs.declared.event.Instance.{Instance}
use Rattle.bspl_types.specs.History.{role_of}
use Rattle.bspl_types.specs.Instance.{Fits}
use Rattle.stamped_history.specs.Local.{MayFollowAs}
use Rattle.local_store.specs.declared.act.Kind.{Kind}
use Rattle.local_store.specs.Reception.{AllAgree}
use Rattle.local_store.specs.State.{StoreState, acts_of}
use Rattle.local_store.specs.inner.Acts.{event_as}

-- the event may follow the store's entries, and there is room for it; its instance fits, is under
-- the row's key, and has the values that are known
pub record IsAppendable (s : StoreState) (kind : Kind) (row : ℕ) (i : Instance) (stamp number : ℕ)
    : Type 0 where
  pub key_is : slice_get s.keys row ≡ Some i.key
  pub fits : Fits s.protocol i
  pub own : role_of s.protocol (event_as kind i) ≡ s.role
  pub follows : MayFollowAs s.protocol s.entries (event_as kind i) stamp number
  pub agree : AllAgree s.protocol (acts_of s) i
  pub spare : 0 < s.spare
