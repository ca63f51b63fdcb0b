-- The entry may come last, so it can be appended.
use Rattle.std.proofs.Common.{◌≡◌, ◌∙◌, ap}
use Rattle.bspl_types.specs.declared.event.Event.{Event}
use Rattle.bspl_types.specs.History.{instance_of}
use Rattle.local_store.specs.inner.Acts.{event_as}
use Rattle.local_store.specs.State.{with_entry}
use Rattle.local_store.proofs.LocalLemmas.{local_last}
use Rattle.local_store.proofs.NextLemmas.{appendable}
use Rattle.local_store.proofs.store.Store.add_entry.Goals as goal

pub append-requires : goal.append-requires
append-requires c =
    let s = c.args.self.now in
    let e = c.args.entry.now in
    let same : c.instance-instance.result.now ≡ instance_of e.event = c.instance-instance.ensures in
    let event : event_as c.kind_of.result c.instance-instance.result.now ≡ e.event = ap (event_as c.kind_of.result) same ∙ c.kind_of.ensures in
    appendable s e c.kind_of.result c.held_row-row.result c.instance-instance.result.now same event c.held_row-row.ensures.row (local_last s.protocol s.role s.entries e c.requires.local) c.requires.spare

pub returns : goal.returns
returns c =
    let e = c.args.entry.now in
    let event : event_as c.kind_of.result c.instance-instance.result.now ≡ e.event = ap (event_as c.kind_of.result) c.instance-instance.ensures ∙ c.kind_of.ensures in
    c.append.ensures ∙ ap (λ (ev : Event). with_entry c.args.self.now ev e.stamp e.number) event
