-- One kind more.
use Rattle.std.proofs.Common.{◌++◌, ◌-◌, ◌+◌, List, ℕ, ap, ◌∙◌, arith}
use Rattle.formula_text.specs.Legend.{orders_of}
use Rattle.formula_text.proofs.Written.{lines, rows_more}
use Rattle.formula_text.proofs.legend.push_orders.Goals as goal

pub loop-i-preserved : goal.loop-i-preserved
loop-i-preserved c =
    let i = c.loop-i.i in
    let rows = orders_of c.args.x.now c.args.vars in
    c.in_ok-push_orders_of.ensures ∙ ap (λ (text : List ℕ). text ++ lines (rows i)) c.loop-i.invariant ∙ rows_more rows c.args.text.now 1 (i - 1) i (i + 1 - 1) (omega arith) (omega arith)
