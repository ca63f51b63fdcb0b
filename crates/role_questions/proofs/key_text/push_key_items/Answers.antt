-- One item more is written.
use Rattle.std.proofs.Common.{◌≡◌, ◌++◌, false, map, sym, ap, ◌∙◌}
use Rattle.std.proofs.lemmas.List.{append-nil}
use Rattle.serde_json.specs.View.{items_of}
use Rattle.serde_json.specs.Written.{comma_if, items_text}
use Rattle.role_questions.specs.Answers.{key_data}
use Rattle.role_questions.specs.inner.Written.{between}
use Rattle.role_questions.proofs.PartLemmas.{item_written}
use Rattle.role_questions.proofs.key_text.push_key_items.Goals as goal
use Rattle.role_questions.proofs.key_text.push_key_items.Goals.{then-later+in_ok-push, else-later}

pub loop-row-preserved : goal.loop-row-preserved
loop-row-preserved c =
    let l = c.loop-row in
    let joined = (elim c.if-later.branch as (λ _. c.if-later.text ≡ l.text ++ comma_if l.later) [
      | then-later+in_ok-push w ↦ w.text-is ∙ w.in_ok-push.ensures.ok ∙ ap (λ b. l.text ++ comma_if b) (sym w.if-later.true)
      | else-later w ↦ w.text-is ∙ sym (append-nil l.text) ∙ ap (λ b. l.text ++ comma_if b) (sym w.if-later.false)
    ]) in
    let keys = c.args.store.now.keys in
    let whole = c.args.text.now ++ items_text false (items_of (map key_data (between c.args.from c.args.end keys))) in
    item_written key_data keys l.row c.args.end c.key_at.result l.text c.if-later.text c.push_key.new.text whole l.later c.loop-row-test.true c.requires c.key_at.ensures joined c.in_ok-push_key.ensures l.invariant
