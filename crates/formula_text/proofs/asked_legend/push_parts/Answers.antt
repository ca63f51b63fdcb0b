-- One variable more.
use Rattle.std.proofs.Common.{◌++◌, ◌-◌, ◌+◌, List, ℕ, ap, ◌∙◌, arith}
use Rattle.formula_text.specs.AskedText.{part}
use Rattle.formula_text.specs.FormulaText.{meaning_line}
use Rattle.formula_text.proofs.Written.{line_more}
use Rattle.formula_text.proofs.asked_legend.push_parts.Goals as goal

pub loop-variable-preserved : goal.loop-variable-preserved
loop-variable-preserved c =
    let others = c.args.others in
    let v = c.loop-variable.variable in
    c.in_ok-push_meaning.ensures ∙ ap (λ (text : List ℕ). text ++ meaning_line (part v)) c.loop-variable.invariant ∙ line_more part c.args.text.now (others + 1) (v - (others + 1)) v (v + 1 - (others + 1)) (omega arith) (omega arith)
