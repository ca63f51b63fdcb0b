-- What is done under a key that is not held.
use Rattle.std.proofs.Common.{List, subst}
use Rattle.bspl_types.specs.declared.value.Value.{Value}
use Rattle.local_store.specs.State.{AddsKey, acts_of}
use Rattle.role_server.specs.Live.{with_live_room}
use Rattle.role_server.specs.Replies.{act_key}
use Rattle.role_server.proofs.LiveEvents.{IsUnused, blocked_unheld, does_new, unheld_unused}
use Rattle.role_server.proofs.live_act.act_under_new_key.Goals as goal

-- nothing is, and the key is not added
pub returns-in-Some-clause-reply : goal.returns-in-Some-clause-reply
returns-in-Some-clause-reply c =
    let unused : IsUnused (acts_of c.args.store.now) (act_key c.args.act.now) = unheld_unused c.args.store.now (act_key c.args.act.now) c.is_consistent.ensures c.requires.fresh in
    blocked_unheld (with_live_room c.args.store.now) c.args.act.now c.in-Some.block unused c.requires.fresh c.in-Some.ensures

-- an event is made
pub returns-clause-reply : goal.returns-clause-reply
returns-clause-reply c =
    let unused : IsUnused (acts_of c.args.store.now) (act_key c.args.act.now) = unheld_unused c.args.store.now (act_key c.args.act.now) c.is_consistent.ensures c.requires.fresh in
    let adds : AddsKey c.grow.new.store (act_key c.args.act.now) c.add_key.new.self = subst (λ (key : List Value). AddsKey c.grow.new.store key c.add_key.new.self) c.key_of.ensures c.in_ok-add_key.ensures.ok in
    does_new c.args.store.now c.grow.new.store c.add_key.new.self c.args.act.now c.reply_to.result c.reply_to.new.store unused c.requires.fresh c.in_default.ensures c.in_ok-grow.ensures.ok adds c.reply_to.ensures.reply
