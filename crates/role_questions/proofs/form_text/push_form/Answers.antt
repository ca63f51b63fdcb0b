-- The values of the key and of the `in` parameters.
use Rattle.std.proofs.Common.{[], ◌∷◌, ◌++◌, map, ap, ap₂, ◌∙◌}
use Rattle.std.specs.List.{zip}
use Rattle.std.proofs.lemmas.Result.{on_ok_weaker}
use Rattle.serde_json.specs.Written.{compact_text}
use Rattle.role_questions.specs.Answers.{key_value, values_data}
use Rattle.role_questions.proofs.WrittenLemmas.{form_text}
use Rattle.role_questions.proofs.form_text.push_form.Goals as goal

pub returns : goal.returns
returns c =
    let text = c.args.text.now in
    let x = c.args.x.now in
    let key = c.in_ok-values.ensures ∙ ap₂ (λ ks vs. map key_value (zip ks vs)) c.as_slice.ensures c.as_slice-2.ensures.values in
    let is = c.as_slice-4.ensures ∙ c.in_ok-append.ensures.ok ∙ ap₂ (λ a b. a ++ b) key c.as_slice-3.ensures in
    on_ok_weaker c.push.result (λ e. e ∙ ap (λ t. t ++ 125 ∷ []) (c.in_ok-push_known_values.ensures ∙ ap (λ t. t ++ compact_text (values_data x c.as_slice-4.result.now)) c.in_ok-push_form_head.ensures)
    ∙ form_text text x c.args.key.now c.args.form.now c.as_slice-4.result.now is) c.push.ensures.ok
