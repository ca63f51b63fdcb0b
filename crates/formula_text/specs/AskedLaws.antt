-- The same laws of the text of a question's formula. Each statement is the contract of a function.
use Rattle.std.specs.Prelude.{◌≡◌, ◌≢◌, ℕ, List, map}
use Rattle.std.specs.List.{All, range_with_len}
use Rattle.bspl_types.specs.declared.expanded.Expanded.{Expanded}
use Rattle.clause_core.specs.declared.formula.Formula.{Formula}
use Rattle.dimacs.specs.Dimacs.{IsDimacs}
use Rattle.question_formula.specs.Formula.{IsQuestionFormula}
use Rattle.questions.specs.declared.question.Question.{Question}
use Rattle.questions.specs.Same.{AskTheSame}
use Rattle.formula_text.specs.AskedText.{FitsText, IsQuestionFormulaText, question_legend}
use Rattle.formula_text.specs.AskedText.{text_of_question}

-- if the question is spelt on one line, the text is in DIMACS form: a header and exactly the
-- clauses of the formula
abbrev pub QuestionReadsBack : Type 0
QuestionReadsBack =
    (spelling : List ℕ) (x : Expanded) (q : Question) (f : Formula) →
    All (λ byte. byte ≢ 10) spelling → IsQuestionFormula x q f → FitsText f →
    IsDimacs (text_of_question spelling x f) f.vars f.clauses

-- the variables of the legend are those from 1 to the formula's last, in order
abbrev pub NamesEachQuestionVariable : Type 0
NamesEachQuestionVariable =
    (x : Expanded) (q : Question) (f : Formula) → IsQuestionFormula x q f →
    map (λ (variable, words). variable) (question_legend x f.vars) ≡ range_with_len 1 f.vars

-- questions that ask the same, wherever their nodes lie in memory, have the same text
abbrev pub SameHasSameFormula : Type 0
SameHasSameFormula =
    (spelling : List ℕ) (x : Expanded) (q r : Question) (text : List ℕ) → AskTheSame q r →
    IsQuestionFormulaText spelling x q text → IsQuestionFormulaText spelling x r text

-- a question has one text
abbrev pub OneQuestionText : Type 0
OneQuestionText =
    (spelling : List ℕ) (x : Expanded) (q : Question) (a b : List ℕ) →
    IsQuestionFormulaText spelling x q a → IsQuestionFormulaText spelling x q b → a ≡ b
