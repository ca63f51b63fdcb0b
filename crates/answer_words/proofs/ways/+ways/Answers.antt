-- The way by a message, by a reference, and by the items of a body one after the other.
use Rattle.std.proofs.Common.{◌≡◌, ◌≢◌, ◌∙◌, ◌++◌, ◌<◌, ℕ, List, None, Some, ap, subst, sym, arith}
use Rattle.std.proofs.lemmas.Result.{IfOk-weaker}
use Rattle.protocol_names.specs.Names.{protocol_of}
use Rattle.protocol_paths.specs.Prefix.{numbered_name}
use Rattle.answer_words.specs.Ways.{way_to}
use Rattle.answer_words.proofs.WayLemmas.{none_is, some_is, way_astray, way_not_there, way_nowhere, way_of_message, way_there, way_through}
use Rattle.answer_words.proofs.ways.+ways.Goals as goal

pub way_by-returns-in-Message : goal.way_by-returns-in-Message
way_by-returns-in-Message t c =
    IfOk-weaker c.own_way.result _ _ (λ way same. way_of_message c.args.most c.args.protocols.now c.args.name.now c.args.position c.in-Message.message c.args.item.now way c.in-Message.is same) c.own_way.ensures

pub way_by-returns-in_default-2 : goal.way_by-returns-in_default-2
way_by-returns-in_default-2 t c =
    let some : 0 < c.args.most = omega (arith, c.if-most-eq0.false) in
    let found = sym (c.in-Some.ensures ∙ ap (protocol_of c.args.protocols.now) c.as_slice.ensures) in
    let other = rw c.in_default-2.is at c.in_ok-rest.ensures in
    way_astray c.args.most c.args.protocols.now c.args.name.now c.args.position c.in-Reference.reference c.in-Some.target.now c.args.item.now c.in-Reference.is some found
    (subst (λ (target : List ℕ). (rest : List ℕ) → c.args.name.now ≢ numbered_name target c.args.position ++ rest) c.as_slice-2.ensures other)

pub way_by-returns-in_default-3 : goal.way_by-returns-in_default-3
way_by-returns-in_default-3 t c =
    let some : 0 < c.args.most = omega (arith, c.if-most-eq0.false) in
    let found = sym (c.in-Some.ensures ∙ ap (protocol_of c.args.protocols.now) c.as_slice.ensures) in
    let begins = rw c.in-Some-2.is at c.in_ok-rest.ensures in
    way_through c.args.most c.args.protocols.now c.args.name.now c.in-Some-2.rest.now c.args.position c.in-Reference.reference c.in-Some.target.now c.args.item.now None c.in-Reference.is some found
    (subst (λ (target : List ℕ). c.args.name.now ≡ numbered_name target c.args.position ++ c.in-Some-2.rest.now) c.as_slice-2.ensures begins)
    (rw c.in_default-3.is at c.in_ok-way.ensures)

pub way_by-returns : goal.way_by-returns
way_by-returns t c =
    let some : 0 < c.args.most = omega (arith, c.if-most-eq0.false) in
    let found = sym (c.in-Some.ensures ∙ ap (protocol_of c.args.protocols.now) c.as_slice.ensures) in
    let begins = rw c.in-Some-2.is at c.in_ok-rest.ensures in
    ap Some c.in_ok-push.ensures.ok ∙
    way_through c.args.most c.args.protocols.now c.args.name.now c.in-Some-2.rest.now c.args.position c.in-Reference.reference c.in-Some.target.now c.args.item.now (Some c.in-Some-3.way) c.in-Reference.is some found
    (subst (λ (target : List ℕ). c.args.name.now ≡ numbered_name target c.args.position ++ c.in-Some-2.rest.now) c.as_slice-2.ensures begins)
    (rw c.in-Some-3.is at c.in_ok-way.ensures)

pub way_to-returns-then-is_some : goal.way_to-returns-then-is_some
way_to-returns-then-is_some t c =
    way_there c.args.most c.args.protocols.now c.args.name.now c.args.protocol.now.body c.loop-index.index c.item-item.result c.in_ok-way.way (way_to c.args.most c.args.protocols.now c.args.protocol.now c.args.name.now)
    (rw c.as_slice-item-items.ensures at c.loop-index-test.true) (rw c.as_slice-item-items.ensures at c.item-item.is) c.in_ok-way.ensures (some_is c.in_ok-way.way (sym c.is_some.ensures ∙ c.if-is_some.true)) c.loop-index.invariant

pub way_to-loop-index-preserved : goal.way_to-loop-index-preserved
way_to-loop-index-preserved t c =
    way_not_there c.args.most c.args.protocols.now c.args.name.now c.args.protocol.now.body c.loop-index.index c.item-item.result c.in_ok-way.way (way_to c.args.most c.args.protocols.now c.args.protocol.now c.args.name.now)
    (rw c.as_slice-item-items.ensures at c.loop-index-test.true) (rw c.as_slice-item-items.ensures at c.item-item.is) c.in_ok-way.ensures (none_is c.in_ok-way.way (sym c.is_some.ensures ∙ c.if-is_some.false)) c.loop-index.invariant

pub way_to-returns : goal.way_to-returns
way_to-returns t c =
    way_nowhere c.args.most c.args.protocols.now c.args.name.now c.args.protocol.now.body c.loop-index.index (way_to c.args.most c.args.protocols.now c.args.protocol.now c.args.name.now)
    (rw c.as_slice-item-items.ensures at c.loop-index-test.false) c.loop-index.invariant
