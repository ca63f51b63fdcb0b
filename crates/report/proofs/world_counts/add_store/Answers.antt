-- One event of the store more.
use Rattle.std.proofs.Common.{◌∷◌, [], List, take, subst, sym, arith}
use Rattle.std.proofs.lemmas.List.{length-map, length-take, take_all}
use Rattle.bspl_types.specs.declared.event.Event.{Event}
use Rattle.local_store.specs.State.{acts_of}
use Rattle.stamped_history.specs.declared.entry.Entry.{Entry}
use Rattle.report.specs.inner.Counts.{GrowBy}
use Rattle.report.proofs.CountLemmas.{acts_more, both_grow, none_grow, room_for_one}
use Rattle.report.proofs.world_counts.add_store.Goals as goal

pub loop-i-init : goal.loop-i-init
loop-i-init c = none_grow c.args.counts.now

pub add_event-requires : goal.add_event-requires
add_event-requires c =
    room_for_one (take c.loop-i.i (acts_of c.args.store.now)) c.args.counts.now c.loop-i.counts c.requires c.loop-i.invariant
    (omega (arith, length-take c.loop-i.i (acts_of c.args.store.now)))

pub loop-i-preserved : goal.loop-i-preserved
loop-i-preserved c =
    let before = take c.loop-i.i (acts_of c.args.store.now) in
    let more = acts_more c.args.store.now c.loop-i.i c.outline-kind.result c.outline-kind.ensures in
    let grown = both_grow before (more.0 ∷ []) c.args.counts.now c.loop-i.counts c.add_event.new.counts c.loop-i.invariant (c.add_event.ensures more.0 more.1) in
    subst (λ (events : List Event). GrowBy events c.args.counts.now c.add_event.new.counts) (sym more.2) grown

pub returns-clause-grow : goal.returns-clause-grow
returns-clause-grow c =
    let acts = acts_of c.args.store.now in
    subst (λ (events : List Event). GrowBy events c.args.counts.now c.loop-i.counts)
    (take_all c.loop-i.i acts (omega (arith, length-map c.args.store.now.entries (λ (e : Entry). e.event)))) c.loop-i.invariant
