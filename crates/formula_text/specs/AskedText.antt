-- The text of a question's formula: the question, what the variables mean, and the formula.
use Rattle.std.specs.Prelude.{◌≡◌, ◌≤◌, ℕ, ◌+◌, ◌-◌, List, [], ◌∷◌, ◌++◌, map, codes, length}
use Rattle.std.specs.List.{flat_map, range_with_len}
use Rattle.bspl_types.specs.declared.expanded.Expanded.{Expanded}
use Rattle.clause_core.specs.declared.formula.Formula.{Formula}
use Rattle.clause_encoding.specs.Formula.{plain_variables}
use Rattle.clause_encoding.specs.Variables.{variable_count}
use Rattle.dimacs.specs.Dimacs.{clause_limit, variable_limit}
use Rattle.list_base.specs.Lines.{line_of}
use Rattle.question_formula.specs.Formula.{IsQuestionFormula}
use Rattle.questions.specs.declared.question.Question.{Question}
use Rattle.formula_text.specs.FormulaText.{formula_lines, meaning_line}
use Rattle.formula_text.specs.Legend.{Meaning, occurrences, orders}

-- the comment line that says which question it is
abbrev pub question_line : List ℕ → List ℕ
question_line spelling = line_of (codes "c" ∷ codes "ask" ∷ spelling ∷ [])

-- where the variable is true, a part of the question's condition is met
abbrev pub part : ℕ → Meaning
part variable = (variable, codes "part" ∷ [])

-- the variables up to the number that come after those of order
abbrev pub parts : Expanded → ℕ → List Meaning
parts x count =
    let others = variable_count (plain_variables x) in
    map part (range_with_len (others + 1) (count - others))

-- the meanings of the variables up to the number
abbrev pub question_legend : Expanded → ℕ → List Meaning
question_legend x count =
    occurrences x (plain_variables x) ++ orders x (plain_variables x) ++ parts x count

-- the text of the formula, after the question and the meanings
abbrev pub text_of_question : List ℕ → Expanded → Formula → List ℕ
text_of_question spelling x f =
    question_line spelling ++ flat_map meaning_line (question_legend x f.vars) ++ formula_lines f

-- the formula has no more variables and clauses than a text may name
pub record FitsText (f : Formula) : Type 0 where
  pub few_variables : f.vars ≤ variable_limit
  pub few_clauses : length f.clauses ≤ clause_limit

-- the text is that of the question's formula, after the question as it is spelt
pub record IsQuestionFormulaText
    (spelling : List ℕ) (x : Expanded) (q : Question) (text : List ℕ) : Type 0 where
  pub formula : Formula
  pub is_formula : IsQuestionFormula x q formula
  pub fits : FitsText formula
  pub printed : text ≡ text_of_question spelling x formula
