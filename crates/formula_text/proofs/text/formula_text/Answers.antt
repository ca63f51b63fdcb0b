-- The text of the formula of the property.
use Rattle.std.proofs.Common.{◌≡◌, ℕ, List}
use Rattle.std.proofs.lemmas.Result.{IfOk-weaker}
use Rattle.formula_text.specs.FormulaText.{IsFormulaText, text_of}
use Rattle.formula_text.proofs.text.formula_text.Goals as goal

pub returns : goal.returns
returns c =
    let formula = c.in_ok-formula.formula in
    IfOk-weaker c.text_of.result (λ (text : List ℕ). text ≡ text_of c.args.property c.args.a.now formula) (IsFormulaText c.args.property c.args.a.now)
    (λ text is. record { formula = formula; is_formula = c.in_ok-formula.ensures.exact; printed = is })
    c.text_of.ensures
