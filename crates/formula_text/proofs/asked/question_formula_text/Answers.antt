-- The text of the formula of the question.
use Rattle.std.proofs.Common.{◌≡◌, ℕ, List, arith, subst}
use Rattle.std.proofs.lemmas.Result.{IfOk-weaker}
use Rattle.bspl_types.specs.declared.expanded.Expanded.{Expanded}
use Rattle.formula_text.specs.AskedText.{FitsText, IsQuestionFormulaText, text_of_question}
use Rattle.formula_text.proofs.asked.question_formula_text.Goals as goal

pub returns : goal.returns
returns c =
    let formula = c.in_ok-formula.formula in
    let spelling = c.args.spelling.now in
    let fits : FitsText formula = record { few_variables = omega arith; few_clauses = omega (arith, c.in_ok-formula.ensures.fits.few_clauses) } in
    IfOk-weaker c.asked_text.result (λ (text : List ℕ). text ≡ text_of_question spelling c.expanded.result.now formula) (IsQuestionFormulaText spelling c.args.a.now c.args.q.now)
    (λ text is. record { formula = formula; is_formula = c.in_ok-formula.ensures.exact; fits = fits; printed = subst (λ (x : Expanded). text ≡ text_of_question spelling x formula) c.expanded.ensures.same is })
    c.asked_text.ensures
