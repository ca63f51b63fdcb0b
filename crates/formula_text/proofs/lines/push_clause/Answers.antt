-- The line that is whole once its end is written.
use Rattle.std.proofs.Common.{◌≡◌, ◌++◌, List, ℕ, OnOk, codes, subst, ap, ◌∙◌, take_all}
use Rattle.clause_core.specs.declared.literal.Lit.{Lit}
use Rattle.formula_text.proofs.Written.{clause_written, spaced_lits}
use Rattle.formula_text.proofs.lines.push_clause.Goals as goal

pub returns : goal.returns
returns c =
    let old = c.args.text.now in
    let lits = c.args.lits.now in
    let all = c.loop-lit.invariant ∙ ap (λ (ls : List Lit). old ++ spaced_lits ls) (take_all c.loop-lit.lit-index lits c.loop-lit-test.false) in
    subst (λ (text : List ℕ). OnOk c.append.result (c.append.new.self ≡ text)) (ap (λ (text : List ℕ). text ++ codes "0\n") all ∙ clause_written old lits) c.append.ensures.ok
