-- The act at an index has the kind and the message of the event there.
use Rattle.std.proofs.Common.{◌≡◌, ℕ, Some, ap, refl, subst, ◌∙◌}
use Rattle.std.specs.Prelude.{slice_get, option_map}
use Rattle.std.proofs.lemmas.Option.{slice_get-map}
use Rattle.bspl_types.specs.declared.event.Instance.{Instance}
use Rattle.stamped_history.specs.declared.entry.Entry.{Entry}
use Rattle.local_store.specs.declared.act.Kind.{Kind}
use Rattle.local_store.specs.declared.act.Kind.TheVariants.{Emitted, Received}
use Rattle.local_store.specs.Outline.{outline_of, outlines}
use Rattle.local_store.specs.inner.Acts.{entries_in, entry_in, event_as, instance_in}
use Rattle.local_store.specs.inner.Kept.{rows_of}
use Rattle.local_store.proofs.store.Store.outline.Goals as goal

outline_as : (kind : Kind) (i : Instance) → outline_of (event_as kind i) ≡ (kind, i.message)
outline_as Emitted i = refl
outline_as Received i = refl

pub returns : goal.returns
returns c =
    let s = c.self.inside in
    let rows = rows_of s.admitted s.keys s.cells.items s.marks.items in
    let a = c.at-act.result in
    let outline = λ (e : Entry). outline_of e.event in
    subst (λ t. slice_get (outlines t) c.args.i ≡ Some (a.kind, a.message)) c.self.view_is
    (slice_get-map outline (entries_in s.admitted rows s.log.acts) c.args.i
    ∙ ap (option_map outline) (slice_get-map (entry_in s.admitted rows) s.log.acts c.args.i ∙ ap (option_map (entry_in s.admitted rows)) c.at-act.ensures)
    ∙ ap Some (outline_as a.kind (instance_in s.admitted rows a)))
