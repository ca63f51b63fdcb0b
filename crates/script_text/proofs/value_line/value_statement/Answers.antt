-- A line of the form names a message that is not declared, or a parameter of which it gives no value.
use Rattle.std.proofs.Common.{List, ℕ, ◌∷◌, ap, ◌∙◌}
use Rattle.script_text.proofs.MeaningLemmas.{unknown_message, unknown_param}
use Rattle.script_text.proofs.value_line.value_statement.Goals as goal

pub returns-in_default-message_of : goal.returns-in_default-message_of
returns-in_default-message_of c =
    let rule = c.in-Some-rule_of.ensures in
    let rest = c.in-Some-first_field.ensures ∙ ap (λ (fs : List (List ℕ)). c.in-Some-first_field.param.now ∷ fs) rule.1 in
    unknown_message c.args.x.now c.in-Some.name.now c.in-Some-first_field.param.now _ c.in-Some-rule_of.rule rule.0 (c.in-Some.ensures ∙ ap (λ (fs : List (List ℕ)). c.in-Some.name.now ∷ fs) rest) c.in_default-message_of.ensures

pub returns-in-None : goal.returns-in-None
returns-in-None c =
    let rule = c.in-Some-rule_of.ensures in
    let rest = c.in-Some-first_field.ensures ∙ ap (λ (fs : List (List ℕ)). c.in-Some-first_field.param.now ∷ fs) rule.1 in
    let found = c.in-Some-message_of.ensures in
    unknown_param c.args.x.now c.in-Some-message_of.message c.in-Some.name.now c.in-Some-first_field.param.now _ c.in-Some-rule_of.rule rule.0 (c.in-Some.ensures ∙ ap (λ (fs : List (List ℕ)). c.in-Some.name.now ∷ fs) rest) found.0 found.1 c.in-None.ensures
