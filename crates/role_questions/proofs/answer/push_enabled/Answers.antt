-- What may be sent.
use Rattle.std.proofs.Common.{[], ◌∷◌, ◌++◌, codes, false, map, refl, ap, ap₂, ◌∙◌}
use Rattle.std.proofs.lemmas.Result.{on_ok_weaker}
use Rattle.serde_json.specs.Data.{array}
use Rattle.serde_json.specs.View.{items_of}
use Rattle.serde_json.specs.Written.{items_text}
use Rattle.wire_form.specs.Reply.{only}
use Rattle.role_questions.specs.Answers.{form_data}
use Rattle.role_questions.proofs.WrittenLemmas.{enabled_text}
use Rattle.role_questions.proofs.answer.push_enabled.Goals as goal

pub returns : goal.returns
returns c =
    let text = c.args.text.now in
    let x = c.args.store.now.protocol in
    let key = c.args.key.now in
    let forms = c.in_ok-forms.forms in
    let x_is = c.expanded-x.ensures.same ∙ c.admitted.ensures in
    on_ok_weaker c.push.result (λ e. record {
      answer = only (codes "enabled") (array (items_of (map (form_data x key) forms)));
      answers = (forms, c.in_ok-forms.ensures, refl);
      added = e ∙ ap (λ t. t ++ 125 ∷ []) (c.in_ok-push_forms.ensures ∙ ap (λ t. t ++ items_text false (items_of (map (form_data c.expanded-x.result.now key) c.as_slice.result.now))) c.in_ok-append.ensures.ok)
          ∙ ap₂ (λ y l. ((text ++ codes "{\"enabled\":[") ++ items_text false (items_of (map (form_data y key) l))) ++ 125 ∷ []) x_is c.as_slice.ensures ∙ enabled_text text (map (form_data x key) forms);
    }) c.push.ensures.ok
