-- An emission has the members, and strings.
use Rattle.std.proofs.Common.{true≢false, sym, ◌∙◌}
use Rattle.serde_json.specs.View.{view}
use Rattle.wire_form.proofs.FormLemmas.{an_emission, no_attempt_form, no_emission}
use Rattle.wire_form.proofs.any_order.emission_in.Goals as goal

pub returns-in_default : goal.returns-in_default
returns-in_default c = no_attempt_form (view c.args.value.now) (rw c.in_default.is at c.attempt_members.ensures)

pub returns-then-has_only_texts : goal.returns-then-has_only_texts
returns-then-has_only_texts c =
    let texts = c.has_only_texts.ensures.0 c.if-has_only_texts.true in
    an_emission (view c.args.value.now) _ _ _ (rw c.in-Some.is at c.attempt_members.ensures) texts.0 texts.1

pub returns : goal.returns
returns c =
    no_emission (view c.args.value.now) _ _ _ (rw c.in-Some.is at c.attempt_members.ensures)
    (λ keys outs. absurd (true≢false (sym (c.has_only_texts.ensures.1 (keys, outs)) ∙ c.if-has_only_texts.false)))
