-- The entries are those of the part.
use Rattle.std.proofs.Common.{◌++◌, ◌+◌, codes, false, length, map, min, refl, ap, ap₂, ◌∙◌}
use Rattle.std.proofs.lemmas.Result.{on_ok_weaker}
use Rattle.serde_json.specs.View.{items_of}
use Rattle.serde_json.specs.Written.{items_text}
use Rattle.role_questions.specs.Answers.{entry_data, items_from, part_data}
use Rattle.role_questions.specs.inner.Written.{between, of_text}
use Rattle.role_questions.proofs.PartLemmas.{part_between}
use Rattle.role_questions.proofs.WrittenLemmas.{history_text}
use Rattle.role_questions.proofs.event_text.push_history.Goals as goal

pub returns : goal.returns
returns c =
    let entries = c.args.store.now.entries in
    let entry = entry_data c.args.store.now.protocol in
    let from = c.args.from in
    let most = c.args.most in
    let text = c.args.text.now in
    let count = c.len-count.ensures.count in
    let same = part_between from most c.end_of-end.result entries (c.end_of-end.ensures ∙ ap (min (from + most)) count) in
    on_ok_weaker c.push_of.result (λ e. record {
      answer = part_data (codes "history") (map entry (items_from from most entries)) (length entries);
      answers = refl;
      added = e ∙ ap (λ t. t ++ of_text c.len-count.result) (c.in_ok-push_entries.ensures ∙ ap (λ t. t ++ items_text false (items_of (map entry (between from c.end_of-end.result entries)))) c.in_ok-append.ensures.ok)
          ∙ ap₂ (λ l n. ((text ++ codes "{\"history\":[") ++ items_text false (items_of (map entry l))) ++ of_text n) same count ∙ history_text text (map entry (items_from from most entries)) (length entries);
    }) c.push_of.ensures
