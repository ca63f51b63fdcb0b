-- The parts of a form before its values.
use Rattle.std.proofs.Common.{◌++◌, codes, false, ap, ap₂, ◌∙◌}
use Rattle.std.proofs.lemmas.Result.{on_ok_weaker}
use Rattle.json.specs.Print.{quoted}
use Rattle.serde_json.specs.Written.{items_text}
use Rattle.bspl_types.specs.Expansion.{message_name, message_of, role_name}
use Rattle.role_questions.specs.inner.Written.{name_items, sent_part}
use Rattle.role_questions.proofs.WrittenLemmas.{in_seven}
use Rattle.role_questions.proofs.form_text.push_form_head.Goals as goal

pub returns : goal.returns
returns c =
    let text = c.args.text.now in
    let x = c.args.x.now in
    let f = c.args.form.now in
    let message = ap₂ (λ t n. t ++ quoted n) c.in_ok-append.ensures.ok c.message_name.ensures in
    let outs = ap₂ (λ t ps. (t ++ codes ",\"outs\":[") ++ items_text false (name_items x ps)) (c.in_ok-push_quoted.ensures ∙ message) c.as_slice.ensures in
    let sent = ap₂ (λ t s. t ++ s) (c.in_ok-push_names.ensures ∙ ap (λ t. t ++ items_text false (name_items x c.as_slice.result.now)) c.in_ok-append-2.ensures.ok ∙ outs) c.truth_part.ensures in
    let to = ap₂ (λ t n. t ++ quoted n) (c.in_ok-append-3.ensures.ok ∙ sent) c.receiver_name.ensures in
    on_ok_weaker c.append-4.result (λ e. e ∙ ap (λ t. t ++ codes ",\"values\":") (c.in_ok-push_quoted-2.ensures ∙ to)
    ∙ in_seven text (codes "{\"message\":") (quoted (message_name x f.message)) (codes ",\"outs\":[") (items_text false (name_items x f.outs)) (sent_part f.sent) (quoted (role_name x (message_of x f.message).receiver)) (codes ",\"values\":")) c.append-4.ensures.ok
