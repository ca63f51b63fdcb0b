-- The act at the index has the message and the key of the event there.
use Rattle.std.proofs.Common.{◌≡◌, [], Some, ap, sym, subst, ◌∙◌}
use Rattle.std.specs.Prelude.{◌↔◌, IsTrue, slice_get, option_map}
use Rattle.std.proofs.lemmas.Option.{get_or_from_slice_get, same_Some, slice_get-map}
use Rattle.bspl_types.specs.History.{instance_of}
use Rattle.local_store.specs.State.{acts_of}
use Rattle.local_store.specs.inner.Acts.{entries_in, entry_in, instance_in}
use Rattle.local_store.specs.inner.Kept.{rows_of}
use Rattle.local_store.proofs.EntryLemmas.{instance_as}
use Rattle.local_store.proofs.SoundLemmas.{act_exists}
use Rattle.local_store.proofs.store.Store.has_received.Goals as goal
use Rattle.enactment_model.specs.Liveness.{IsReceived}

pub at-key-requires : goal.at-key-requires
at-key-requires c =
    let s = c.other.inside in
    (act_exists s.admitted s.role s.clock (rows_of s.admitted s.keys s.cells.items s.marks.items) s.log c.other.invariant.0 c.args.i c.at-act.result c.at-act.ensures).0

pub returns : goal.returns
returns c = λ e at.
    let s = c.other.inside in
    let rows = rows_of s.admitted s.keys s.cells.items s.marks.items in
    let a = c.at-act.result in
    let entry = entry_in s.admitted rows in
    let here : slice_get (entries_in s.admitted rows s.log.acts) c.args.i ≡ Some (entry a) = slice_get-map entry s.log.acts c.args.i ∙ ap (option_map entry) c.at-act.ensures in
    let is = same_Some e (entry a) (sym at ∙ subst (λ t. slice_get t.entries c.args.i ≡ Some (entry a)) c.other.view_is here) in
    let instance = ap (λ x. instance_of x.event) is ∙ instance_as a.kind (instance_in s.admitted rows a) in
    let key = ap (λ i. i.key) instance ∙ get_or_from_slice_get s.keys a.row c.at-key.result [] c.at-key.ensures in
    subst (λ k. IsTrue c.received.result ↔ IsReceived (acts_of c.args.self.now) k (instance_of e.event).message) (sym key)
    (subst (λ m. IsTrue c.received.result ↔ IsReceived (acts_of c.args.self.now) c.at-key.result m) (sym (ap (λ i. i.message) instance)) c.received.ensures)
