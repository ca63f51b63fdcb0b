-- One message further, and all of them.
use Rattle.std.proofs.Common.{◌≡◌, ◌+◌, ◌∙◌, ap, arith, length, sym}
use Rattle.std.proofs.lemmas.Bool.{true≢false}
use Rattle.bspl_types.specs.declared.expanded.Expanded.{Expanded}
use Rattle.role_questions.proofs.EnabledLemmas.{FormsBefore, forms_more, forms_none, forms_same, forms_whole}
use Rattle.role_questions.proofs.form_list.forms.Goals as goal
use Rattle.role_questions.proofs.form_list.forms.Goals.{then-may_send+in_ok-form+in_ok-push, else-may_send}

pub loop-message-init : goal.loop-message-init
loop-message-init c = rw c.new-forms.ensures (forms_none c.args.store.now c.args.key.now)

pub loop-message-preserved : goal.loop-message-preserved
loop-message-preserved c =
    let s = c.args.store.now in
    let key = c.args.key.now in
    let m = c.loop-message.message in
    (elim c.if-may_send.branch as (λ _. FormsBefore s key (m + 1) c.if-may_send.forms) [
      | then-may_send+in_ok-form+in_ok-push w ↦ rw (w.forms-is, w.in_ok-push.ensures.ok) (forms_more s key m c.loop-message.forms c.loop-message.invariant w.in_ok-form.form w.in_ok-form.ensures (c.may_send.ensures.0 w.if-may_send.true))
      | else-may_send w ↦ rw w.forms-is (forms_same s key m c.loop-message.forms c.loop-message.invariant (λ may. true≢false (sym (c.may_send.ensures.1 may) ∙ w.if-may_send.false)))
    ])

pub returns : goal.returns
returns c =
    let count : c.len-count.result ≡ length c.args.store.now.protocol.messages = c.len-count.ensures ∙ ap (λ (x : Expanded). length x.messages) (c.expanded.ensures.same ∙ c.admitted.ensures) in
    forms_whole c.args.store.now c.args.key.now c.loop-message.message c.loop-message.forms c.loop-message.invariant (omega (arith, count, c.loop-message-test.false, c.loop-message.auto.message-end))
