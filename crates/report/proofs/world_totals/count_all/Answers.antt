-- The store of one role more.
use Rattle.std.proofs.Common.{◌≡◌, ◌+◌, ◌<◌, ◌≤◌, ◌++◌, List, Some, length, take, ap, arith, subst, sym}
use Rattle.std.specs.Prelude.{slice_get}
use Rattle.std.proofs.lemmas.List.{length-append, length-map}
use Rattle.std.proofs.lemmas.Option.{get_or_from_slice_get, slice_get_within}
use Rattle.bspl_types.specs.declared.event.Event.{Event}
use Rattle.adapter.specs.Desk.{DeskState}
use Rattle.local_store.specs.State.{StoreState, acts_of}
use Rattle.stamped_history.specs.declared.entry.Entry.{Entry}
use Rattle.report.specs.WorldCounts.{no_count}
use Rattle.report.specs.inner.Counts.{acts_of_all}
use Rattle.report.specs.inner.Totals.{GrowsBy}
use Rattle.report.proofs.RoleCounts.{desks_more}
use Rattle.report.proofs.TotalLemmas.{grows_both, room_for_desk}
use Rattle.report.proofs.world_totals.count_all.Goals as goal

pub add_all-requires : goal.add_all-requires
add_all-requires c =
    room_for_desk (acts_of_all (take c.loop-role.role c.args.world.now.desks)) c.loop-role.total c.loop-role.role c.loop-role.invariant.counted c.loop-role.invariant.few (omega arith)

pub loop-role-preserved : goal.loop-role-preserved
loop-role-preserved c =
    let desks = c.args.world.now.desks in
    let role = c.loop-role.role in
    let d : DeskState = c.state.result.now in
    let at : slice_get desks role ≡ Some d = c.state.ensures.desk in
    let within : role < length desks = slice_get_within desks role d at in
    let before = acts_of_all (take role desks) in
    let acts = acts_of d.store in
    let store_is : c.store.result.now ≡ d.store = c.store.ensures in
    let more : acts_of_all (take (role + 1) desks) ≡ before ++ acts = desks_more desks role d within (get_or_from_slice_get desks role d d at) in
    let grown : GrowsBy acts c.loop-role.total c.add_all.new.total = subst (λ (s : StoreState). GrowsBy (acts_of s) c.loop-role.total c.add_all.new.total) store_is c.add_all.ensures.grows in
    let few : length d.store.entries ≤ 4294967295 = subst (λ (s : StoreState). length s.entries ≤ 4294967295) store_is c.add_all.ensures.few in
    record {
      counted = subst (λ (events : List Event). GrowsBy events no_count c.add_all.new.total) (sym more) (grows_both before acts no_count c.loop-role.total c.add_all.new.total c.loop-role.invariant.counted grown);
      few = omega (arith, ap length more, length-append before acts, length-map d.store.entries (λ (e : Entry). e.event), few, c.loop-role.invariant.few);
    }
