-- One event of the store more.
use Rattle.std.proofs.Common.{ℕ, ◌∷◌, [], List, take, ap, subst, sym, arith}
use Rattle.std.proofs.lemmas.List.{length-map, length-take, take_all}
use Rattle.bspl_types.specs.declared.event.Event.{Event}
use Rattle.local_store.specs.declared.act.Kind.{Kind}
use Rattle.local_store.specs.State.{acts_of}
use Rattle.stamped_history.specs.declared.entry.Entry.{Entry}
use Rattle.report.specs.inner.Totals.{GrowsBy}
use Rattle.report.proofs.CountLemmas.{acts_more}
use Rattle.report.proofs.TotalLemmas.{grows_both, grows_none, room_for_event}
use Rattle.report.proofs.world_totals.add_all.Goals as goal

pub loop-i-init : goal.loop-i-init
loop-i-init c = grows_none c.args.total.now

pub add_one-requires : goal.add_one-requires
add_one-requires c =
    room_for_event (take c.loop-i.i (acts_of c.args.store.now)) c.args.total.now c.loop-i.total c.requires c.loop-i.invariant
    (omega (arith, length-take c.loop-i.i (acts_of c.args.store.now)))

pub loop-i-preserved : goal.loop-i-preserved
loop-i-preserved c =
    let before = take c.loop-i.i (acts_of c.args.store.now) in
    let more = acts_more c.args.store.now c.loop-i.i c.outline.result c.outline.ensures in
    let grown = grows_both before (more.0 ∷ []) c.args.total.now c.loop-i.total c.add_one.new.total c.loop-i.invariant (c.add_one.ensures more.0 (ap (λ (o : Kind × ℕ). o.0) more.1)) in
    subst (λ (events : List Event). GrowsBy events c.args.total.now c.add_one.new.total) (sym more.2) grown

pub returns-clause-grows : goal.returns-clause-grows
returns-clause-grows c =
    let acts = acts_of c.args.store.now in
    subst (λ (events : List Event). GrowsBy events c.args.total.now c.loop-i.total)
    (take_all c.loop-i.i acts (omega (arith, length-map c.args.store.now.entries (λ (e : Entry). e.event)))) c.loop-i.invariant
