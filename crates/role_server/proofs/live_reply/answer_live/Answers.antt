-- What is answered to an act, by the first reason that holds.
use Rattle.std.proofs.Common.{rules, ◌≡◌, true, false, List, refl, subst}
use Rattle.std.specs.Prelude.{IsSome}
use Rattle.std.specs.List.{Contains}
use Rattle.bspl_types.specs.declared.value.Value.{Value}
use Rattle.role_server.specs.Live.{live_limit, with_live_room}
use Rattle.role_server.specs.Replies.{HasNoRoom, IsLast, act_key}
use Rattle.role_server.proofs.ActLemmas.{found_held}
use Rattle.role_server.proofs.LiveAnswers.{answers_done, answers_last, answers_no_room}
use Rattle.role_server.proofs.live_reply.answer_live.Goals as goal

-- no event or no key more may be
pub returns-then-is_full-clause-reply : goal.returns-then-is_full-clause-reply
returns-then-is_full-clause-reply c =
    let full : HasNoRoom live_limit (with_live_room c.args.store.now) (act_key c.args.act.now) = subst (λ (key : List Value). HasNoRoom live_limit (with_live_room c.args.store.now) key) c.key_of-key.ensures (c.if-is_full.ensures.0 refl) in
    answers_no_room (with_live_room c.args.store.now) c.args.act.now full

-- the clock or the stamp is at its last value
pub returns-then-is_last-clause-reply : goal.returns-then-is_last-clause-reply
returns-then-is_last-clause-reply c =
    let room : ¬ HasNoRoom live_limit (with_live_room c.args.store.now) (act_key c.args.act.now) = subst (λ (key : List Value). ¬ HasNoRoom live_limit (with_live_room c.args.store.now) key) c.key_of-key.ensures (λ full. let wrong : false ≡ true = c.if-is_full.ensures.1 full in absurd cc) in
    answers_last (with_live_room c.args.store.now) c.args.act.now room (c.if-is_last.ensures.exact.0 refl)

-- the key has a row, so it is held
pub act_under_held_key-requires-clause-held : goal.act_under_held_key-requires-clause-held
act_under_held_key-requires-clause-held c =
    let some : IsSome c.find-row.result = search rules in
    subst (Contains c.args.store.now.keys) c.key_of-key.ensures ((found_held c.args.store.now c.key_of-key.result.now c.find-row.result c.find-row.ensures).0 some)

-- the act is done under a held key
pub returns-then-is_some-clause-reply : goal.returns-then-is_some-clause-reply
returns-then-is_some-clause-reply c =
    let room : ¬ HasNoRoom live_limit (with_live_room c.args.store.now) (act_key c.args.act.now) = subst (λ (key : List Value). ¬ HasNoRoom live_limit (with_live_room c.args.store.now) key) c.key_of-key.ensures (λ full. let wrong : false ≡ true = c.if-is_full.ensures.1 full in absurd cc) in
    let before_last : ¬ IsLast (with_live_room c.args.store.now) c.args.act.now = (λ is. let wrong : false ≡ true = c.if-is_last.ensures.exact.1 is in absurd cc) in
    answers_done (with_live_room c.args.store.now) c.args.act.now c.act_under_held_key.result (with_live_room c.act_under_held_key.new.store) room before_last c.act_under_held_key.ensures.reply

-- or under a new one
pub returns-else-is_some-clause-reply : goal.returns-else-is_some-clause-reply
returns-else-is_some-clause-reply c =
    let room : ¬ HasNoRoom live_limit (with_live_room c.args.store.now) (act_key c.args.act.now) = subst (λ (key : List Value). ¬ HasNoRoom live_limit (with_live_room c.args.store.now) key) c.key_of-key.ensures (λ full. let wrong : false ≡ true = c.if-is_full.ensures.1 full in absurd cc) in
    let before_last : ¬ IsLast (with_live_room c.args.store.now) c.args.act.now = (λ is. let wrong : false ≡ true = c.if-is_last.ensures.exact.1 is in absurd cc) in
    answers_done (with_live_room c.args.store.now) c.args.act.now c.act_under_new_key.result (with_live_room c.act_under_new_key.new.store) room before_last c.act_under_new_key.ensures.reply
