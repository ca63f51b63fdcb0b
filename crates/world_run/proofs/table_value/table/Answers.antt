-- The values of the stores are those of the table.
use Rattle.std.proofs.Common.{◌≡◌, List, Some, slice_get, take, get_or, sym, ap, ◌∙◌, subst, All}
use Rattle.std.proofs.lemmas.List.{take_all, take_more}
use Rattle.std.proofs.lemmas.List.Elements.{All-push}
use Rattle.std.proofs.lemmas.Option.{slice_get-get_or}
use Rattle.bspl_types.specs.declared.event.Event.{Event}
use Rattle.bspl_types.specs.declared.expanded.Expanded.{Expanded}
use Rattle.bspl_types.specs.Knowledge.{IsKnown, Knows}
use Rattle.adapter.specs.Desk.{DeskState}
use Rattle.local_store.specs.State.{acts_of, StoreState}
use Rattle.stamped_history.specs.TableValue.{IsTableValue}
use Rattle.stamped_history.specs.Explained.{AreLocal}
use Rattle.world_run.specs.World.{AreDesksOf, HasHistories, histories_of, WorldState}
use Rattle.world_run.specs.inner.Unknown.{IsUnknownAt}
use Rattle.world_run.proofs.TableLemmas.{table_none, table_some}
use Rattle.world_run.proofs.table_value.table.Goals as goal

pub returns-in-Some : goal.returns-in-Some
returns-in-Some c =
    let items : List DeskState = c.as_slice-desk-items.result.now in
    let d : DeskState = c.desk-item.result in
    let items_are : items ≡ c.args.world.now.desks = c.as_slice-desk-items.ensures ∙ ap (λ (w : WorldState). w.desks) c.world.view_is in
    let at : slice_get items c.loop-desk.desk-index ≡ Some d = slice_get-get_or items c.loop-desk.desk-index d c.loop-desk-test.true ∙ ap Some (sym c.desk-item.is) in
    let knows : Knows d.store.protocol (acts_of d.store) c.args.key.now c.args.param c.in-Some.value = subst (λ (s : StoreState). Knows s.protocol (acts_of s) c.args.key.now c.args.param c.in-Some.value) c.store.ensures c.in-Some.ensures in
    subst (λ (ds : List DeskState). (x : Expanded) (run : List Event) → AreDesksOf x ds → AreLocal x (histories_of ds) → HasHistories x ds run → IsTableValue x run c.args.key.now c.args.param (Some c.in-Some.value)) items_are
    (table_some c.equal_values_are_one.ensures.lists items c.loop-desk.desk-index d c.args.key.now c.args.param c.in-Some.value at c.loop-desk.invariant knows)

pub loop-desk-preserved : goal.loop-desk-preserved
loop-desk-preserved c =
    let items : List DeskState = c.as_slice-desk-items.result.now in
    let d : DeskState = c.desk-item.result in
    let P = IsUnknownAt c.args.key.now c.args.param in
    let unknown : P d = subst (λ (s : StoreState). IsKnown s.protocol (acts_of s) c.args.key.now c.args.param → ⊥) c.store.ensures c.in_default.ensures in
    subst (All P) (sym (take_more items c.loop-desk.desk-index d c.loop-desk-test.true))
    (All-push P (take c.loop-desk.desk-index items) (get_or items c.loop-desk.desk-index d) c.loop-desk.invariant (subst P c.desk-item.is unknown))

pub returns : goal.returns
returns c =
    let items : List DeskState = c.as_slice-desk-items.result.now in
    let items_are : items ≡ c.args.world.now.desks = c.as_slice-desk-items.ensures ∙ ap (λ (w : WorldState). w.desks) c.world.view_is in
    table_none c.args.world.now.desks c.args.key.now c.args.param
    (subst (All (IsUnknownAt c.args.key.now c.args.param)) (take_all c.loop-desk.desk-index items c.loop-desk-test.false ∙ items_are) c.loop-desk.invariant)
