-- A text that is read as a question: the question, or why it is none.
use Rattle.std.specs.Prelude.{ℕ, List, Result, Ok, Err}
use Rattle.question_text.specs.declared.tree.Tree.{Tree}
use Rattle.question_text.specs.QuestionText.{IsQuestionText}
use Rattle.tool_input.specs.declared.rejection.Code.TheVariants.{Q}
use Rattle.tool_input.specs.declared.rejection.Field.TheVariants as field
use Rattle.tool_input.specs.declared.rejection.Rejection.{Rejection}
use Rattle.tool_input.specs.Rejection.{with_one}
use Rattle.ask_commands.specs.declared.misread.Misread.{Misread}
use Rattle.ask_commands.specs.AskTask.{IsMisputText}

-- the rejection of the text
abbrev pub misread_rejection : Misread → Rejection
misread_rejection misread = with_one (Q misread.code) (field.Number misread.number)

-- the text is the question of the tree, or is rejected so
abbrev pub IsReadAs : List ℕ → Result Tree Misread → Type 0
IsReadAs text (Ok tree) = IsQuestionText text tree
IsReadAs text (Err misread) = IsMisputText text (misread_rejection misread)
