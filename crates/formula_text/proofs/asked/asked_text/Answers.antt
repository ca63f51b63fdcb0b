-- The question, the legend, and then the formula.
use Rattle.std.proofs.Common.{◌++◌, List, ℕ, ap, ◌∙◌}
use Rattle.std.specs.List.{flat_map}
use Rattle.formula_text.specs.AskedText.{question_legend, question_line}
use Rattle.formula_text.specs.FormulaText.{formula_lines, meaning_line}
use Rattle.formula_text.proofs.asked.asked_text.Goals as goal

pub returns : goal.returns
returns c =
    let f = c.args.formula.now in
    let meanings = flat_map meaning_line (question_legend c.args.x.now f.vars) in
    let question = c.in_ok-push_question.ensures ∙ ap (λ (text : List ℕ). text ++ question_line c.args.spelling.now) c.new-text.ensures in
    let legend = c.in_ok-push_question_legend.ensures ∙ ap (λ (text : List ℕ). text ++ meanings) question in
    c.in_ok-push_formula.ensures ∙ ap (λ (text : List ℕ). text ++ formula_lines f) legend
