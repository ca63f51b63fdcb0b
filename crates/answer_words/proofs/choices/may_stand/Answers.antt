-- The text that is tried is the text, a LF and the sign.
use Rattle.std.proofs.Common.{◌≡◌, ◌∙◌, ◌++◌, ◌∷◌, [], ℕ, List, ap, subst, append_assoc}
use Rattle.std.specs.Prelude.{◌↔◌, IfOk, IsTrue}
use Rattle.answer_words.specs.Choices.{IsRefusedWithin}
use Rattle.answer_words.proofs.choices.may_stand.Goals as goal

pub returns : goal.returns
returns c =
    let tried : c.as_slice.result.now ≡ c.args.before.now ++ 10 ∷ c.args.sign.now =
    c.as_slice.ensures ∙ c.in_ok-append.ensures.ok ∙ ap (λ (t : List ℕ). t ++ c.args.sign.now) (c.in_ok-push.ensures.ok ∙ ap (λ (t : List ℕ). t ++ 10 ∷ []) c.in_ok-text.ensures) ∙ append_assoc c.args.before.now (10 ∷ []) c.args.sign.now in
    subst (λ (t : List ℕ). IfOk c.is_free.result (λ may. IsTrue may ↔ (¬ IsRefusedWithin t))) tried c.is_free.ensures
