-- The store is new but for the key and the room.
use Rattle.std.proofs.Common.{ap, sym, subst, ◌∙◌}
use Rattle.bspl_types.specs.Expansion.{message_of}
use Rattle.local_store.specs.Emission.{IsAttempt}
use Rattle.library_uses.proofs.StoreLemmas.{is_ready, may_try}
use Rattle.library_uses.proofs.store.begun_store.Goals as goal

pub emit-requires : goal.emit-requires
emit-requires c =
    let x = c.args.a.now in
    let m = c.args.message in
    let role = c.message_at.result.now.sender in
    let own = ap (λ y. (message_of y m).sender) (sym c.expanded.ensures.same) ∙ ap (λ n. n.sender) (sym c.message_at.ensures) in
    let ready = is_ready x role c.args.key.now c.in_ok-store.store c.add_key.new.self c.reserve.new.self c.in_ok-store.ensures c.in_ok-add_key.ensures.ok c.in_ok-reserve.ensures.ok in
    subst (λ s. IsAttempt s m c.args.key.now c.args.outs.now) (sym ready) (may_try x role m c.args.key.now c.args.outs.now c.requires.known own c.requires.chosen)
