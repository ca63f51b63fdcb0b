-- One value more has its text.
use Rattle.std.proofs.Common.{ℕ, List, [], ◌∷◌, ◌++◌, ◌+◌, drop, sym, ap, ◌∙◌}
use Rattle.std.specs.Borrow.{Bor}
use Rattle.std.proofs.lemmas.List.{append-nil, append_assoc, drop_all, drop_more, map-append}
use Rattle.wire_form.specs.Texts.{texts_in, texts_of}
use Rattle.wire_form.proofs.texts.texts_of.Goals as goal

pub loop-value-preserved : goal.loop-value-preserved
loop-value-preserved c =
    let l = c.loop-value in
    let v = c.value-item.result in
    let values = c.args.values.now in
    let text = c.text_in.result in
    let rest = texts_in (drop (l.value-index + 1) values) in
    ap (λ ts. texts_of ts ++ rest) c.in_ok-push.ensures.items
    ∙ ap (λ ts. ts ++ rest) (map-append (λ (t : Bor (List ℕ)). t.now) l.texts.items (text ∷ []))
    ∙ append_assoc (texts_of l.texts.items) (text.now ∷ []) rest
    ∙ ap (λ t. texts_of l.texts.items ++ t ∷ rest) c.text_in.ensures
    ∙ ap (λ vs. texts_of l.texts.items ++ texts_in vs) (sym (drop_more values l.value-index v c.loop-value-test.true ∙ ap (λ w. w ∷ drop (l.value-index + 1) values) (sym c.value-item.is)))
    ∙ l.invariant

pub returns : goal.returns
returns c =
    let l = c.loop-value in
    sym (append-nil (texts_of l.texts.items)) ∙ ap (λ vs. texts_of l.texts.items ++ texts_in vs) (sym (drop_all l.value-index c.args.values.now c.loop-value-test.false)) ∙ l.invariant
