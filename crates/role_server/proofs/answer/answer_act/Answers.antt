-- What is answered to an act, by the first reason that holds.
use Rattle.std.proofs.Common.{◌≡◌, true, false, refl, subst}
use Rattle.role_server.specs.Replies.{HasNoRoom, IsLast, done, act_key, last}
use Rattle.role_server.specs.inner.Acts.{HoldsKey}
use Rattle.role_server.proofs.answer.answer_act.Goals as goal

-- there is room, and the clock or the stamp is at its last value
pub returns-then-is_last-clause-reply : goal.returns-then-is_last-clause-reply
returns-then-is_last-clause-reply c =
    let room : ¬ HasNoRoom c.args.most_keys c.args.store.now (act_key c.args.act.now) = subst (λ key. ¬ HasNoRoom c.args.most_keys c.args.store.now key) c.key_of-key.ensures (λ none. let wrong : false ≡ true = c.if-has_no_room.ensures.1 none in absurd cc) in
    let at_last : IsLast c.args.store.now c.args.act.now = c.if-is_last.ensures.exact.0 refl in
    last room at_last refl refl

-- the act was done
pub returns-clause-reply : goal.returns-clause-reply
returns-clause-reply c =
    let room : ¬ HasNoRoom c.args.most_keys c.args.store.now (act_key c.args.act.now) = subst (λ key. ¬ HasNoRoom c.args.most_keys c.args.store.now key) c.key_of-key.ensures (λ none. let wrong : false ≡ true = c.if-has_no_room.ensures.1 none in absurd cc) in
    let before_last : ¬ IsLast c.args.store.now c.args.act.now = (λ is_last. let wrong : false ≡ true = c.if-is_last.ensures.exact.1 is_last in absurd cc) in
    let holds : HoldsKey c.args.store.now (act_key c.args.act.now) c.hold.new.store = subst (λ key. HoldsKey c.args.store.now key c.hold.new.store) c.key_of-key.ensures c.in_ok-hold.ensures.ok in
    done room before_last (record { held = c.hold.new.store; adds = holds.adds; acts = c.reply_to.ensures.reply })
