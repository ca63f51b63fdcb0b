-- The act at an index has the number of the entry there.
use Rattle.std.proofs.Common.{◌≡◌, Some, ap, subst, ◌∙◌}
use Rattle.std.specs.Prelude.{slice_get, option_map}
use Rattle.std.proofs.lemmas.Option.{slice_get-map}
use Rattle.stamped_history.specs.declared.entry.Entry.{Entry}
use Rattle.local_store.specs.State.{numbers}
use Rattle.local_store.specs.inner.Acts.{entries_in, entry_in}
use Rattle.local_store.specs.inner.Kept.{rows_of}
use Rattle.local_store.proofs.store.Store.number.Goals as goal

pub returns : goal.returns
returns c =
    let s = c.self.inside in
    let entry = entry_in s.admitted (rows_of s.admitted s.keys s.cells.items s.marks.items) in
    let number = λ (e : Entry). e.number in
    subst (λ t. slice_get (numbers t) c.args.i ≡ Some c.at.result.number) c.self.view_is
    (slice_get-map number (entries_in s.admitted (rows_of s.admitted s.keys s.cells.items s.marks.items) s.log.acts) c.args.i
    ∙ ap (option_map number) (slice_get-map entry s.log.acts c.args.i ∙ ap (option_map entry) c.at.ensures))
