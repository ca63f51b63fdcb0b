-- What texts of questions have in common.
use Rattle.std.specs.Prelude.{◌≡◌, ℕ, List}
use Rattle.question_text.specs.declared.fault.QuestionFault.{QuestionFault}
use Rattle.question_text.specs.declared.fault.QuestionFault.TheVariants.{NoMemory}
use Rattle.question_text.specs.declared.tree.Tree.{Tree}
use Rattle.question_text.specs.QuestionText.{IsMisread, IsQuestionText, tree_spelling}
use Rattle.question_text.specs.Tree.{phrase_of}

-- the text is no question, for that reason and not for lack of memory
pub record IsFaultOf (text : List ℕ) (fault : QuestionFault) : Type 0 where
  pub misread : IsMisread text fault
  pub no_memory : fault ≡ NoMemory → ⊥

-- all trees of a text are one, wherever their nodes lie in memory
abbrev pub HasOneTree : Type 0
HasOneTree =
    (text : List ℕ) (t u : Tree)
    → IsQuestionText text t → IsQuestionText text u → phrase_of t ≡ phrase_of u

-- all faults of a text are one
abbrev pub HasOneFault : Type 0
HasOneFault =
    (text : List ℕ) (a b : QuestionFault) → IsFaultOf text a → IsFaultOf text b → a ≡ b

-- no text is a question and has a fault
abbrev pub ReadTextHasNoFault : Type 0
ReadTextHasNoFault =
    (text : List ℕ) (t : Tree) (a : QuestionFault)
    → IsQuestionText text t → ¬ IsFaultOf text a

-- the spelling of a question is that question
abbrev pub SpellingReadsBack : Type 0
SpellingReadsBack =
    (text : List ℕ) (t : Tree) → IsQuestionText text t → IsQuestionText (tree_spelling t) t
