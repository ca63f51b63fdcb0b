-- What an asked role keeps, and its store, are determined by what it is given.
use Rattle.std.specs.Prelude.{◌≡◌, ℕ, Bool, List}
use Rattle.kept_lines.specs.Answers.{AnswersLines}
use Rattle.kept_lines.specs.Replay.{KeepsOrStays}
use Rattle.list_base.specs.Lines.{Line}
use Rattle.local_store.specs.Consistent.{IsConsistent}
use Rattle.local_store.specs.State.{StoreState}
use Rattle.role_questions.specs.declared.question.Question.{Question}
use Rattle.role_questions.specs.Asked.{AskedReplies}
use Rattle.role_questions.specs.Meaning.{PutsQuestion}

-- a line that is kept has its LF, and each other leaves the store
abbrev pub AskedLinesKeepOrStay : Type 0
AskedLinesKeepOrStay = KeepsOrStays AskedReplies

-- two outcomes of a line are one, but for the text of an answer
pub record IsOneOutcome (s : StoreState) (line : Line) (text other : List ℕ)
    (is_kept also_kept : Bool) (next also : StoreState) : Type 0 where
  pub kept : is_kept ≡ also_kept
  pub store : next ≡ also
  pub reply : ((q : Question) → ¬ PutsQuestion s.protocol line q) → text ≡ other

-- from each store of a role on, wherever lines lead, a line has one outcome, but for such a text
abbrev pub AskedOutcomesAreOne : Type 0
AskedOutcomesAreOne =
    (s : StoreState) (lines : List Line) (out acts : List ℕ) (now : StoreState) →
    IsConsistent s → AnswersLines AskedReplies s lines out acts now →
    (line : Line) (text other : List ℕ) (is_kept also_kept : Bool) (next also : StoreState) →
    AskedReplies now line text is_kept next → AskedReplies now line other also_kept also →
    IsOneOutcome now line text other is_kept also_kept next also
