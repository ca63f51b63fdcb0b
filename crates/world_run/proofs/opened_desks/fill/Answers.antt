-- The store as its calls leave it.
use Rattle.std.proofs.Common.{length, arith, ap, refl, sym, ◌∙◌}
use Rattle.std.proofs.lemmas.Result.{on_ok_weaker}
use Rattle.local_store.specs.State.{new_store, StoreState}
use Rattle.world_run.proofs.OpenLemmas.{store_made}
use Rattle.world_run.proofs.opened_desks.fill.Goals as goal

pub hold_keys-requires : goal.hold_keys-requires
hold_keys-requires c = c.requires ∙ ap (new_store c.args.job.now.protocol) (sym (ap (λ (s : StoreState). s.role) c.requires))

pub reserve-requires : goal.reserve-requires
reserve-requires c =
    let none = ap (λ (s : StoreState). length s.entries) (c.in_ok-hold_keys.ensures ∙ ap (λ (s : StoreState). record s { keys = c.args.job.now.script.keys }) c.requires) in
    omega (arith, none, c.event_room.ensures.few)

pub returns : goal.returns
returns c =
    on_ok_weaker c.reserve.result
    (λ kept. store_made c.args.job.now c.args.role c.event_room.result c.args.job.now.protocol c.args.store.now c.hold_keys.new.store c.reserve.new.self c.event_room.ensures.count refl c.requires c.in_ok-hold_keys.ensures kept)
    c.reserve.ensures.ok
