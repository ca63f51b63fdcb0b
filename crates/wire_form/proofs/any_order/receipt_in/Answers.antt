-- A receipt has the members, a number of 32 bits, and strings.
use Rattle.std.proofs.Common.{true≢false, sym, ◌∙◌, arith}
use Rattle.serde_json.specs.View.{view}
use Rattle.wire_form.proofs.FormLemmas.{a_receipt, no_receipt, no_sent_form}
use Rattle.wire_form.proofs.any_order.receipt_in.Goals as goal

pub returns-in_default : goal.returns-in_default
returns-in_default c = λ message count stamp fields few. no_sent_form (view c.args.value.now) (rw c.in_default.is at c.sent_members.ensures) message count stamp fields

pub returns-then-found-ge4294967296 : goal.returns-then-found-ge4294967296
returns-then-found-ge4294967296 c =
    let is = rw c.in-Some.is at c.sent_members.ensures in
    let large = c.if-found-ge4294967296.true in
    no_receipt (view c.args.value.now) _ _ _ _ is (λ few texts. absurd (omega (arith, few, large)))

pub returns-then-has_texts : goal.returns-then-has_texts
returns-then-has_texts c =
    let is = rw c.in-Some.is at c.sent_members.ensures in
    (c.if-found-ge4294967296.false, a_receipt (view c.args.value.now) _ _ _ _ is (c.has_texts.ensures.0 c.if-has_texts.true))

pub returns : goal.returns
returns c =
    let is = rw c.in-Some.is at c.sent_members.ensures in
    no_receipt (view c.args.value.now) _ _ _ _ is (λ few texts. absurd (true≢false (sym (c.has_texts.ensures.1 texts) ∙ c.if-has_texts.false)))
