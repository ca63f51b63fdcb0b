-- Two formulas of a question have equal clauses, so equal texts.
use Rattle.std.proofs.Common.{ℕ, List, ◌++◌, length, sym, ◌∙◌}
use Rattle.std.specs.List.{flat_map}
use Rattle.bspl_types.specs.declared.expanded.Expanded.{Expanded}
use Rattle.clause_core.specs.declared.literal.Lit.{Lit}
use Rattle.dimacs.specs.Dimacs.{header_words}
use Rattle.list_base.specs.Lines.{line_of}
use Rattle.question_formula.specs.Formula.{question_clauses}
use Rattle.formula_text.specs.AskedText.{question_legend, question_line}
use Rattle.formula_text.specs.FormulaText.{clause_line, meaning_line}
use Rattle.formula_text.proofs.asked_laws.one_question_text.Goals as goal

-- the text by its parts
abbrev text_by : List ℕ → Expanded → ℕ → List (List Lit) → List ℕ
text_by spelling x vars clauses =
    question_line spelling ++ flat_map meaning_line (question_legend x vars) ++ (line_of (header_words vars (length clauses)) ++ flat_map clause_line clauses)

pub returns : goal.returns
returns c = λ spelling x q a b one other.
    let vars = one.is_formula.vars ∙ sym other.is_formula.vars in
    let clauses = c.clauses_are_determined.ensures (question_clauses x q) one.formula.clauses other.formula.clauses one.is_formula.clauses other.is_formula.clauses in
    one.printed ∙ (λ i. text_by spelling x (vars i) (clauses i)) ∙ sym other.printed
