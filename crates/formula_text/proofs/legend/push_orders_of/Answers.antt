-- One kind more.
use Rattle.std.proofs.Common.{◌++◌, ◌-◌, ◌+◌, List, ℕ, ap, ◌∙◌, arith}
use Rattle.formula_text.specs.FormulaText.{meaning_line}
use Rattle.formula_text.specs.Legend.{order}
use Rattle.formula_text.proofs.Written.{line_more}
use Rattle.formula_text.proofs.legend.push_orders_of.Goals as goal

pub loop-j-preserved : goal.loop-j-preserved
loop-j-preserved c =
    let i = c.args.i in
    let j = c.loop-j.j in
    let line = order c.args.x.now c.args.vars i in
    c.in_ok-push_order.ensures ∙ ap (λ (text : List ℕ). text ++ meaning_line (line j)) c.loop-j.invariant ∙ line_more line c.args.text.now (i + 1) (j - (i + 1)) j (j + 1 - (i + 1)) (omega arith) (omega arith)
