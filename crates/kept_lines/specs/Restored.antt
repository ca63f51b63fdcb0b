-- What a text of kept lines restores.
use Rattle.std.specs.Prelude.{◌≡◌, ℕ, ◌+◌, false, List, ◌∷◌, ◌++◌, length, ⊤}
use Rattle.list_base.specs.Lines.{Line, lines_of}
use Rattle.kept_lines.specs.Answers.{AnswersLines, LineRule}
use Rattle.kept_lines.specs.declared.kept_text.RestoreRefusal.{RestoreRefusal}
use Rattle.kept_lines.specs.declared.kept_text.RestoreRefusal.TheVariants as restoring

-- each line of the text is answered, and each is one that is kept
abbrev pub RestoresText : {S : Type 0} → LineRule S → S → List ℕ → S → Type 0
RestoresText answers s text end =
    (out : List ℕ) × AnswersLines answers s (lines_of text) out text end

-- the lines before the one with this number are kept, and this one is not
pub record StopsAtLine {S : Type 0} (answers : LineRule S) (s : S) (text : List ℕ) (number : ℕ)
    : Type 0 where
  pub before : List ℕ
  pub line : Line
  pub after : List Line
  pub whole : lines_of text ≡ lines_of before ++ line ∷ after
  pub numbered : number ≡ length (lines_of before) + 1
  pub at : S
  pub kept : RestoresText answers s before at
  pub reply : List ℕ
  pub next : S
  pub unkept : answers at line reply false next

-- why a text is not restored
abbrev pub FailsToRestore : {S : Type 0} → LineRule S → S → List ℕ → RestoreRefusal → Type 0
FailsToRestore answers s text (restoring.NotKept number) = StopsAtLine answers s text number
FailsToRestore answers s text restoring.NoMemory = ⊤
