-- The text of the formula of the message.
use Rattle.std.proofs.Common.{◌≡◌, ℕ, List}
use Rattle.std.proofs.lemmas.Result.{IfOk-weaker}
use Rattle.bspl_types.specs.declared.property.Property.TheVariants.{Safety}
use Rattle.formula_text.specs.FormulaText.{IsEnactText, text_of}
use Rattle.formula_text.proofs.text.enact_formula_text.Goals as goal

pub returns : goal.returns
returns c =
    let formula = c.in_ok-formula.formula in
    IfOk-weaker c.text_of.result (λ (text : List ℕ). text ≡ text_of Safety c.args.a.now formula) (IsEnactText c.args.a.now c.args.message)
    (λ text is. record { formula = formula; is_formula = c.in_ok-formula.ensures.exact; printed = is })
    c.text_of.ensures
