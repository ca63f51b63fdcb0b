-- Under a key that is not held there is no event.
use Rattle.std.proofs.Common.{subst, []}
use Rattle.std.specs.Prelude.{◌↔◌, IsTrue}
use Rattle.std.proofs.lemmas.Bool.{false≢true}
use Rattle.std.proofs.lemmas.Option.{get_or_from_slice_get}
use Rattle.local_store.specs.State.{acts_of}
use Rattle.local_store.specs.inner.Kept.{HasEvent}
use Rattle.local_store.proofs.RoleLemmas.{no_event}
use Rattle.local_store.proofs.store.Store.happened.Goals as goal

pub returns-in-None : goal.returns-in-None
returns-in-None c = (
  λ yes. absurd (false≢true yes),
  λ has. absurd (no_event c.args.self.now c.args.key.now c.args.message c.in-None.ensures.sound c.in-None.ensures.found has),
)

pub returns-in-Some : goal.returns-in-Some
returns-in-Some c =
    subst (λ key. IsTrue c.has_event.result ↔ HasEvent (acts_of c.args.self.now) key c.args.message)
    (get_or_from_slice_get c.args.self.now.keys c.in-Some.row c.args.key.now [] c.in-Some.ensures.found) c.has_event.ensures
