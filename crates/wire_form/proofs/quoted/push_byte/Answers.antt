-- A byte that has an escape.
use Rattle.std.proofs.Common.{◌<◌, [], ◌∷◌, ◌++◌, sym, ap, ap₂, subst, ◌∙◌}
use Rattle.std.proofs.lemmas.List.{append_assoc}
use Rattle.std.proofs.lemmas.Result.{on_ok_weaker}
use Rattle.wire_form.proofs.WritingLemmas.{escaped_control, escaped_short}
use Rattle.wire_form.proofs.quoted.push_byte.Goals as goal

pub returns-then-letter-gt0 : goal.returns-then-letter-gt0
returns-then-letter-gt0 c =
    let text = c.args.text.now in
    let letter = c.escape_letter-letter.result in
    let is = c.escape_letter-letter.ensures in
    on_ok_weaker c.push-then-letter-gt0.result (λ e.
    e ∙ ap (λ t. t ++ letter ∷ []) c.in_ok-push.ensures.ok ∙ append_assoc text (92 ∷ []) (letter ∷ [])
    ∙ ap (λ bs. text ++ bs) (ap (λ l. 92 ∷ l ∷ []) is ∙ sym (escaped_short c.args.byte (subst (λ n. 0 < n) is c.if-letter-gt0.true))))
    c.push-then-letter-gt0.ensures.ok

pub returns-then-byte-lt32 : goal.returns-then-byte-lt32
returns-then-byte-lt32 c =
    let text = c.args.text.now in
    let one = c.digit.result in
    let two = c.digit-then-byte-lt32.result in
    let none = rw c.escape_letter-letter.ensures at c.if-letter-gt0.false in
    on_ok_weaker c.push-then-byte-lt32-2.result (λ e.
    e ∙ ap (λ t. t ++ two ∷ []) (c.in_ok-push-2.ensures.ok ∙ ap (λ t. t ++ one ∷ []) c.in_ok-append.ensures.ok)
    ∙ append_assoc (text ++ (92 ∷ 117 ∷ 48 ∷ 48 ∷ [])) (one ∷ []) (two ∷ []) ∙ append_assoc text (92 ∷ 117 ∷ 48 ∷ 48 ∷ []) (one ∷ two ∷ [])
    ∙ ap (λ bs. text ++ bs) (ap₂ (λ a b. 92 ∷ 117 ∷ 48 ∷ 48 ∷ a ∷ b ∷ []) c.digit.ensures c.digit-then-byte-lt32.ensures ∙ sym (escaped_control c.args.byte none c.if-byte-lt32.true)))
    c.push-then-byte-lt32-2.ensures.ok
