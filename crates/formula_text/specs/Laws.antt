-- The text is read as the formula, its legend names each variable once, and it is the only one.
use Rattle.std.specs.Prelude.{◌≡◌, ℕ, List, map}
use Rattle.std.specs.List.{range_with_len}
use Rattle.bspl_types.specs.declared.expanded.Expanded.{Expanded}
use Rattle.clause_core.specs.declared.formula.Formula.{Formula}
use Rattle.dimacs.specs.Dimacs.{IsDimacs}
use Rattle.bspl_types.specs.declared.property.Property.{Property}
use Rattle.bspl_types.specs.declared.property.Property.TheVariants.{Safety}
use Rattle.clause_encoding.specs.Formula.{IsFormula}
use Rattle.enactability.specs.EnactFormula.{IsEnactFormula}
use Rattle.formula_text.specs.FormulaText.{IsEnactText, IsFormulaText, text_of}
use Rattle.formula_text.specs.Legend.{legend}

-- the text is in DIMACS form: a header and exactly the clauses of the formula
abbrev pub ReadsBack : Type 0
ReadsBack =
    (property : Property) (x : Expanded) (f : Formula) → IsFormula property x f →
    IsDimacs (text_of property x f) f.vars f.clauses

-- so is the text of the formula in which a message is sent
abbrev pub EnactReadsBack : Type 0
EnactReadsBack =
    (x : Expanded) (message : ℕ) (f : Formula) → IsEnactFormula x message f →
    IsDimacs (text_of Safety x f) f.vars f.clauses

-- the variables of the legend are those from 1 to the formula's last, in order
abbrev pub NamesEachVariable : Type 0
NamesEachVariable =
    (property : Property) (x : Expanded) (f : Formula) → IsFormula property x f →
    map (λ (variable, words). variable) (legend property x) ≡ range_with_len 1 f.vars

-- those of safety are also the variables of that formula
abbrev pub NamesEachEnactVariable : Type 0
NamesEachEnactVariable =
    (x : Expanded) (message : ℕ) (f : Formula) → IsEnactFormula x message f →
    map (λ (variable, words). variable) (legend Safety x) ≡ range_with_len 1 f.vars

-- a protocol has one text
abbrev pub OneText : Type 0
OneText =
    (property : Property) (x : Expanded) (a b : List ℕ) → IsFormulaText property x a →
    IsFormulaText property x b → a ≡ b

-- and one for a message
abbrev pub OneEnactText : Type 0
OneEnactText =
    (x : Expanded) (message : ℕ) (a b : List ℕ) → IsEnactText x message a →
    IsEnactText x message b → a ≡ b
