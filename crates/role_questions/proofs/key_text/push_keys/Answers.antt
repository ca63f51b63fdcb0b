-- The keys are those of the part.
use Rattle.std.proofs.Common.{◌++◌, ◌+◌, codes, false, length, map, min, refl, ap, ap₂, ◌∙◌}
use Rattle.std.proofs.lemmas.Result.{on_ok_weaker}
use Rattle.serde_json.specs.View.{items_of}
use Rattle.serde_json.specs.Written.{items_text}
use Rattle.role_questions.specs.Answers.{items_from, key_data, part_data}
use Rattle.role_questions.specs.inner.Written.{between, of_text}
use Rattle.role_questions.proofs.PartLemmas.{part_between}
use Rattle.role_questions.proofs.WrittenLemmas.{keys_text}
use Rattle.role_questions.proofs.key_text.push_keys.Goals as goal

pub returns : goal.returns
returns c =
    let keys = c.args.store.now.keys in
    let from = c.args.from in
    let most = c.args.most in
    let text = c.args.text.now in
    let count = c.held-count.ensures in
    let same = part_between from most c.end_of-end.result keys (c.end_of-end.ensures ∙ ap (min (from + most)) count) in
    on_ok_weaker c.push_of.result (λ e. record {
      answer = part_data (codes "keys") (map key_data (items_from from most keys)) (length keys);
      answers = refl;
      added = e ∙ ap (λ t. t ++ of_text c.held-count.result) (c.in_ok-push_key_items.ensures ∙ ap (λ t. t ++ items_text false (items_of (map key_data (between from c.end_of-end.result keys)))) c.in_ok-append.ensures.ok)
          ∙ ap₂ (λ l n. ((text ++ codes "{\"keys\":[") ++ items_text false (items_of (map key_data l))) ++ of_text n) same count ∙ keys_text text (map key_data (items_from from most keys)) (length keys);
    }) c.push_of.ensures
