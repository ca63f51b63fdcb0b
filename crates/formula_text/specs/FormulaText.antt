-- The text of a formula: a comment line for each variable, the header, and a line for each clause.
use Rattle.std.specs.Prelude.{◌≡◌, ℕ, List, ◌∷◌, ◌++◌, length, codes}
use Rattle.std.specs.List.{flat_map}
use Rattle.bspl_types.specs.declared.expanded.Expanded.{Expanded}
use Rattle.clause_core.specs.declared.formula.Formula.{Formula}
use Rattle.clause_core.specs.declared.literal.Lit.{Lit}
use Rattle.dimacs.specs.Dimacs.{clause_words, header_words}
use Rattle.list_base.specs.Lines.{line_of}
use Rattle.list_base.specs.Numeral.{numeral}
use Rattle.bspl_types.specs.declared.property.Property.{Property}
use Rattle.bspl_types.specs.declared.property.Property.TheVariants.{Safety}
use Rattle.clause_encoding.specs.Formula.{IsFormula}
use Rattle.enactability.specs.EnactFormula.{IsEnactFormula}
use Rattle.formula_text.specs.Legend.{Meaning, legend}

-- `c`, the variable's number, and the words
abbrev pub meaning_line : Meaning → List ℕ
meaning_line (variable, words) = line_of (codes "c" ∷ numeral variable ∷ words)

-- `p cnf`, the number of variables and that of clauses
abbrev pub header_line : Formula → List ℕ
header_line f = line_of (header_words f.vars (length f.clauses))

-- the literals of a clause as signed numbers, and `0`
abbrev pub clause_line : List Lit → List ℕ
clause_line clause = line_of (clause_words clause)

-- the lines of a formula
abbrev pub formula_lines : Formula → List ℕ
formula_lines f = header_line f ++ flat_map clause_line f.clauses

-- the text of the formula, after the meanings of its variables
abbrev pub text_of : Property → Expanded → Formula → List ℕ
text_of property x f = flat_map meaning_line (legend property x) ++ formula_lines f

-- the text is that of the protocol's formula of this property
pub record IsFormulaText (property : Property) (x : Expanded) (text : List ℕ) : Type 0 where
  pub formula : Formula
  pub is_formula : IsFormula property x formula
  pub printed : text ≡ text_of property x formula

-- the text is that of the formula in which the message is sent, which has the variables of safety
pub record IsEnactText (x : Expanded) (message : ℕ) (text : List ℕ) : Type 0 where
  pub formula : Formula
  pub is_formula : IsEnactFormula x message formula
  pub printed : text ≡ text_of Safety x formula
