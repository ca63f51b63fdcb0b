-- What is known.
use Rattle.std.proofs.Common.{[], ◌∷◌, ◌++◌, codes, refl, ap, ap₂, ◌∙◌}
use Rattle.std.proofs.lemmas.Result.{on_ok_weaker}
use Rattle.serde_json.specs.Written.{compact_text}
use Rattle.wire_form.specs.Reply.{only}
use Rattle.role_questions.specs.Answers.{values_data}
use Rattle.role_questions.proofs.WrittenLemmas.{known_text}
use Rattle.role_questions.proofs.answer.push_known.Goals as goal

pub returns : goal.returns
returns c =
    let text = c.args.text.now in
    let x = c.args.store.now.protocol in
    let list = c.in_ok-list.list in
    let x_is = c.expanded-x.ensures.same ∙ c.admitted.ensures in
    on_ok_weaker c.push.result (λ e. record {
      answer = only (codes "known") (values_data x list);
      answers = (list, c.in_ok-list.ensures, refl);
      added = e ∙ ap (λ t. t ++ 125 ∷ []) (c.in_ok-push_known_values.ensures ∙ ap (λ t. t ++ compact_text (values_data c.expanded-x.result.now c.as_slice.result.now)) c.in_ok-append.ensures.ok)
          ∙ ap₂ (λ y l. ((text ++ codes "{\"known\":") ++ compact_text (values_data y l)) ++ 125 ∷ []) x_is c.as_slice.ensures ∙ known_text text (values_data x list);
    }) c.push.ensures.ok
