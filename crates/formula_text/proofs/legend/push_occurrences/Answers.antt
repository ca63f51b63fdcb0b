-- One kind more.
use Rattle.std.proofs.Common.{◌++◌, ◌-◌, ◌+◌, List, ℕ, ap, ◌∙◌, arith}
use Rattle.formula_text.specs.FormulaText.{meaning_line}
use Rattle.formula_text.specs.Legend.{occurrence}
use Rattle.formula_text.proofs.Written.{line_more}
use Rattle.formula_text.proofs.legend.push_occurrences.Goals as goal

pub loop-kind-preserved : goal.loop-kind-preserved
loop-kind-preserved c =
    let x = c.args.x.now in
    let kind = c.loop-kind.kind in
    c.in_ok-push_meaning.ensures ∙ ap (λ (words : List (List ℕ)). c.loop-kind.text ++ meaning_line (kind, words)) c.words_of_kind.ensures ∙ ap (λ (text : List ℕ). text ++ meaning_line (occurrence x kind)) c.loop-kind.invariant ∙ line_more (occurrence x) c.args.text.now 1 (kind - 1) kind (kind + 1 - 1) (omega arith) (omega arith)
