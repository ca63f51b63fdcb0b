-- The store of one role more.
use Rattle.std.proofs.Common.{◌≡◌, ◌+◌, ◌<◌, ◌≤◌, ◌++◌, List, Some, length, take, ap, arith, subst, sym}
use Rattle.std.specs.Prelude.{slice_get}
use Rattle.std.proofs.lemmas.List.{length-append, length-map, take_all}
use Rattle.std.proofs.lemmas.Option.{get_or_from_slice_get, slice_get_within}
use Rattle.bspl_types.specs.declared.event.Event.{Event}
use Rattle.adapter.specs.Desk.{DeskState}
use Rattle.local_store.specs.State.{StoreState, acts_of}
use Rattle.stamped_history.specs.declared.entry.Entry.{Entry}
use Rattle.report.specs.inner.Counts.{GrowBy, acts_of_all, no_counts}
use Rattle.report.proofs.CountLemmas.{both_grow, room_for_store}
use Rattle.report.proofs.MessageLemmas.{counts_of_run}
use Rattle.report.proofs.RoleCounts.{desks_more}
use Rattle.report.proofs.world_counts.message_counts.Goals as goal

pub add_store-requires : goal.add_store-requires
add_store-requires c =
    room_for_store (acts_of_all (take c.loop-role.role c.args.world.now.desks)) c.loop-role.counts c.loop-role.role c.loop-role.invariant.counted c.loop-role.invariant.few (omega arith)

pub loop-role-preserved : goal.loop-role-preserved
loop-role-preserved c =
    let desks = c.args.world.now.desks in
    let role = c.loop-role.role in
    let d : DeskState = c.state.result.now in
    let at : slice_get desks role ≡ Some d = c.state.ensures.desk in
    let within : role < length desks = slice_get_within desks role d at in
    let before = acts_of_all (take role desks) in
    let acts = acts_of d.store in
    let store_is : c.store.result.now ≡ d.store = c.store.ensures in
    let more : acts_of_all (take (role + 1) desks) ≡ before ++ acts = desks_more desks role d within (get_or_from_slice_get desks role d d at) in
    let grown : GrowBy acts c.loop-role.counts c.add_store.new.counts = subst (λ (s : StoreState). GrowBy (acts_of s) c.loop-role.counts c.add_store.new.counts) store_is c.add_store.ensures.grow in
    let few : length d.store.entries ≤ 4294967295 = subst (λ (s : StoreState). length s.entries ≤ 4294967295) store_is c.add_store.ensures.few in
    record {
      counted = subst (λ (events : List Event). GrowBy events no_counts c.add_store.new.counts) (sym more) (both_grow before acts no_counts c.loop-role.counts c.add_store.new.counts c.loop-role.invariant.counted grown);
      few = omega (arith, ap length more, length-append before acts, length-map d.store.entries (λ (e : Entry). e.event), few, c.loop-role.invariant.few);
    }

pub returns : goal.returns
returns c = λ run has.
    let desks = c.args.world.now.desks in
    let counted : GrowBy (acts_of_all desks) no_counts c.loop-role.counts =
    subst (λ (ds : List DeskState). GrowBy (acts_of_all ds) no_counts c.loop-role.counts) (take_all c.loop-role.role desks (omega (arith, c.requires.count))) c.loop-role.invariant.counted in
    counts_of_run c.args.x.now desks run c.loop-role.counts counted has
