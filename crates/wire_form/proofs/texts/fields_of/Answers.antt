-- One member more is a field.
use Rattle.std.proofs.Common.{[], ◌∷◌, ◌++◌, sym, ap, ap₂, ◌∙◌}
use Rattle.std.proofs.lemmas.List.{append_assoc, map-append}
use Rattle.wire_form.specs.declared.asked.Field.{Field as TextField}
use Rattle.wire_form.specs.inner.Asked.{fields_of}
use Rattle.wire_form.specs.inner.Found.{fields_in}
use Rattle.wire_form.proofs.texts.fields_of.Goals as goal

pub loop-name-preserved : goal.loop-name-preserved
loop-name-preserved c =
    let l = c.loop-name in
    let fields = fields_of l.fields.items in
    let rest = fields_in c.next.new.self in
    ap (λ fs. fields_of fs ++ rest) c.in_ok-push.ensures.items
    ∙ ap (λ fs. fs ++ rest) (map-append (λ (f : TextField). (f.name.now, f.text.now)) l.fields.items (_ ∷ []))
    ∙ append_assoc fields (_ ∷ []) rest
    ∙ ap₂ (λ n t. fields ++ (n, t) ∷ rest) c.as_str.ensures.value c.text_in.ensures
    ∙ ap (λ es. fields ++ fields_in es) (sym c.in-Some.ensures.steps) ∙ l.invariant
