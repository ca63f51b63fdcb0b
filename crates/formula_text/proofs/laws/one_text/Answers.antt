-- Two formulas of a protocol have equal clauses, so equal texts.
use Rattle.std.proofs.Common.{ℕ, List, ◌++◌, length, sym, ◌∙◌}
use Rattle.std.specs.List.{flat_map}
use Rattle.bspl_types.specs.declared.expanded.Expanded.{Expanded}
use Rattle.bspl_types.specs.declared.property.Property.{Property}
use Rattle.bspl_types.specs.declared.property.Property.TheVariants.{Safety}
use Rattle.clause_core.specs.declared.literal.Lit.{Lit}
use Rattle.clause_encoding.specs.Formula.{clauses_of}
use Rattle.dimacs.specs.Dimacs.{header_words}
use Rattle.enactability.specs.EnactFormula.{enact_clauses}
use Rattle.list_base.specs.Lines.{line_of}
use Rattle.formula_text.specs.FormulaText.{clause_line, meaning_line}
use Rattle.formula_text.specs.Legend.{legend}
use Rattle.formula_text.proofs.laws.one_text.Goals as goal

-- the text by its parts
abbrev text_by : Property → Expanded → ℕ → List (List Lit) → List ℕ
text_by property x vars clauses =
    flat_map meaning_line (legend property x) ++ (line_of (header_words vars (length clauses)) ++ flat_map clause_line clauses)

pub returns-clause-property : goal.returns-clause-property
returns-clause-property c = λ property x a b one other.
    let vars = one.is_formula.vars ∙ sym other.is_formula.vars in
    let clauses = c.clauses_are_determined.ensures (clauses_of property x) one.formula.clauses other.formula.clauses one.is_formula.clauses other.is_formula.clauses in
    one.printed ∙ (λ i. text_by property x (vars i) (clauses i)) ∙ sym other.printed

pub returns-clause-message : goal.returns-clause-message
returns-clause-message c = λ x message a b one other.
    let vars = one.is_formula.vars ∙ sym other.is_formula.vars in
    let clauses = c.clauses_are_determined.ensures (enact_clauses x message) one.formula.clauses other.formula.clauses one.is_formula.clauses other.is_formula.clauses in
    one.printed ∙ (λ i. text_by Safety x (vars i) (clauses i)) ∙ sym other.printed
