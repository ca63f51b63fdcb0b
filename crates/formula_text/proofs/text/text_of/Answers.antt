-- The legend, and then the formula.
use Rattle.std.proofs.Common.{◌++◌, List, ℕ, ap, ◌∙◌}
use Rattle.formula_text.specs.FormulaText.{formula_lines}
use Rattle.formula_text.specs.Legend.{legend}
use Rattle.formula_text.proofs.Written.{lines}
use Rattle.formula_text.proofs.text.text_of.Goals as goal

pub returns : goal.returns
returns c =
    let meanings = legend c.args.property c.args.a.now in
    c.in_ok-push_formula.ensures ∙ ap (λ (text : List ℕ). text ++ formula_lines c.args.formula.now) (c.in_ok-push_legend.ensures ∙ ap (λ (text : List ℕ). text ++ lines meanings) c.new-text.ensures)
