-- One item more is written.
use Rattle.std.proofs.Common.{◌≡◌, ◌++◌, false, map, sym, ap, ◌∙◌}
use Rattle.std.proofs.lemmas.List.{append-nil}
use Rattle.serde_json.specs.View.{items_of}
use Rattle.serde_json.specs.Written.{comma_if, compact_text, items_text}
use Rattle.role_questions.specs.Answers.{entry_data}
use Rattle.role_questions.specs.inner.Written.{between}
use Rattle.role_questions.proofs.PartLemmas.{item_written}
use Rattle.role_questions.proofs.event_text.push_entries.Goals as goal
use Rattle.role_questions.proofs.event_text.push_entries.Goals.{then-later+in_ok-push, else-later}

pub loop-index-preserved : goal.loop-index-preserved
loop-index-preserved c =
    let l = c.loop-index in
    let joined = (elim c.if-later.branch as (λ _. c.if-later.text ≡ l.text ++ comma_if l.later) [
      | then-later+in_ok-push w ↦ w.text-is ∙ w.in_ok-push.ensures.ok ∙ ap (λ b. l.text ++ comma_if b) (sym w.if-later.true)
      | else-later w ↦ w.text-is ∙ sym (append-nil l.text) ∙ ap (λ b. l.text ++ comma_if b) (sym w.if-later.false)
    ]) in
    let x = c.args.store.now.protocol in
    let entries = c.args.store.now.entries in
    let whole = c.args.text.now ++ items_text false (items_of (map (entry_data x) (between c.args.from c.args.end entries))) in
    let x_is = c.expanded-x.ensures.same ∙ c.admitted.ensures in
    let written = c.in_ok-push_entry.ensures ∙ ap (λ y. c.if-later.text ++ compact_text (entry_data y c.entry_at.result)) x_is in
    item_written (entry_data x) entries l.index c.args.end c.entry_at.result l.text c.if-later.text c.push_entry.new.text whole l.later c.loop-index-test.true c.requires c.entry_at.ensures joined written l.invariant
