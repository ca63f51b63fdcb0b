-- The event that an act stands for is rebuilt from its row.
use Rattle.std.proofs.Common.{◌≡◌, ◌<◌, ℕ, [], length, map, Some, ap, subst, sym, ◌∙◌, arith, All}
use Rattle.std.specs.Prelude.{slice_get, option_map}
use Rattle.std.proofs.lemmas.Option.{get_or_from_slice_get, slice_get-map}
use Rattle.bspl_types.specs.declared.event.Event.{Event}
use Rattle.bspl_types.specs.declared.protocol.Carried.{Carried}
use Rattle.bspl_types.specs.Adornment.{valued}
use Rattle.bspl_types.specs.Expansion.{message_of}
use Rattle.stamped_history.specs.declared.entry.Entry.{Entry}
use Rattle.local_store.specs.State.{stamped_events, StoreState}
use Rattle.local_store.specs.inner.Acts.{entries_in, entry_in, event_as, value_in}
use Rattle.local_store.specs.inner.Grids.{cell_at}
use Rattle.local_store.specs.inner.Kept.{rows_of}
use Rattle.local_store.proofs.SoundLemmas.{act_exists}
use Rattle.local_store.proofs.store.Store.event.Goals as goal

pub carried-carried-requires : goal.carried-carried-requires
carried-carried-requires c =
    let s = c.self.inside in
    subst (λ t. c.at-act.result.message < length t.protocol.messages) c.self.view_is
    (act_exists s.admitted s.role s.clock (rows_of s.admitted s.keys s.cells.items s.marks.items) s.log c.self.invariant.0 c.args.i c.at-act.result c.at-act.ensures).1

pub at-requires : goal.at-requires
at-requires c =
    let s = c.self.inside in
    (act_exists s.admitted s.role s.clock (rows_of s.admitted s.keys s.cells.items s.marks.items) s.log c.self.invariant.0 c.args.i c.at-act.result c.at-act.ensures).0

pub read_values-requires-clause-cells : goal.read_values-requires-clause-cells
read_values-requires-clause-cells c =
    let s = c.self.inside in
    let width : length c.args.self.now.protocol.params ≡ s.cells.width = sym (c.self.invariant.1.params ∙ ap (λ (t : StoreState). length t.protocol.params) c.self.view_is) in
    record {
      within = omega (arith, (act_exists s.admitted s.role s.clock (rows_of s.admitted s.keys s.cells.items s.marks.items) s.log c.self.invariant.0 c.args.i c.at-act.result c.at-act.ensures).0, c.self.invariant.1.cells);
      columns = subst (λ (n : ℕ). All (λ (d : Carried). d.param < n) c.carried-carried.result.now) width c.carried-carried.ensures.exist;
    }

pub returns : goal.returns
returns c =
    let s = c.self.inside in
    let rows = rows_of s.admitted s.keys s.cells.items s.marks.items in
    let a = c.at-act.result in
    let entry = entry_in s.admitted rows in
    let pair : Entry → Event × ℕ = λ e. (e.event, e.stamp) in
    let carried = c.carried-carried.ensures.carried ∙ sym (ap (λ t. (message_of t.protocol a.message).carried) c.self.view_is) in
    let values = c.read_values.ensures ∙ (λ j. map (λ (d : Carried). value_in (cell_at (c.self.invariant.1.params j) s.cells.items a.row d.param)) (valued (carried j))) in
    let key = sym (get_or_from_slice_get s.keys a.row c.at.result [] c.at.ensures) in
    let event = c.event_as.ensures ∙ (λ j. event_as a.kind (record { message = a.message; key = key j; values = values j })) in
    subst (λ t. slice_get (stamped_events t) c.args.i ≡ Some (c.event_as.result, a.stamp)) c.self.view_is
    (slice_get-map pair (entries_in s.admitted rows s.log.acts) c.args.i ∙ ap (option_map pair) (slice_get-map entry s.log.acts c.args.i ∙ ap (option_map entry) c.at-act.ensures)
    ∙ (λ j. Some (sym event j, a.stamp)))
