-- The known values with their parameters.
use Rattle.std.proofs.Common.{[], ◌∷◌, ◌++◌, false, ap₂, ◌∙◌}
use Rattle.std.specs.List.{zip}
use Rattle.std.proofs.lemmas.List.{append_assoc}
use Rattle.std.proofs.lemmas.Result.{on_ok_weaker}
use Rattle.serde_json.specs.Data.{no_members}
use Rattle.serde_json.specs.Written.{members_text}
use Rattle.bspl_types.specs.Adornment.{valued}
use Rattle.wire_form.specs.Reply.{put_values}
use Rattle.role_questions.specs.Answers.{known_pairs}
use Rattle.role_questions.proofs.WrittenLemmas.{known_zipped}
use Rattle.role_questions.proofs.value_text.push_known_values.Goals as goal

pub returns : goal.returns
returns c =
    let text = c.args.text.now in
    let x = c.args.x.now in
    let list = c.args.list.now in
    let pairs = ap₂ (λ cs vs. zip (valued cs) vs) (c.as_slice.ensures ∙ c.in_ok-carried.ensures) (c.as_slice-2.ensures ∙ c.in_ok-values.ensures) ∙ known_zipped list in
    on_ok_weaker c.push_values.result (λ e. e ∙ ap₂ (λ t ps. t ++ members_text false (put_values x ps no_members)) c.in_ok-push.ensures.ok pairs
    ∙ append_assoc text (123 ∷ []) (members_text false (put_values x (known_pairs list) no_members))) c.push_values.ensures
