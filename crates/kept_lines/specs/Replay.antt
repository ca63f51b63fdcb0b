-- What was kept of lines, answered again.
use Rattle.std.specs.Prelude.{◌≡◌, ℕ, Bool, true, false, List, [], ◌∷◌, ◌++◌}
use Rattle.list_base.specs.Lines.{Line, lines_of}
use Rattle.kept_lines.specs.Answers.{AnswersLines, LineRule}

-- the line has its LF
abbrev pub EndsWithLf : Line → Type 0
EndsWithLf line = (body : List ℕ) × (line ≡ body ++ 10 ∷ [])

-- a line that is kept has its LF, and one that is not kept leaves the state as it is
pub record KeepsOrStays {S : Type 0} (answers : LineRule S) : Type 0 where
  pub keeps : (s : S) (line : Line) (reply : List ℕ) (next : S) → answers s line reply true next →
      EndsWithLf line
  pub stays : (s : S) (line : Line) (reply : List ℕ) (next : S) → answers s line reply false next →
      next ≡ s

-- what was kept of the first lines of a text, answered again, is all kept again, and leads to the
-- same state
abbrev pub KeptLinesReplay : {S : Type 0} → LineRule S → Type 0
KeptLinesReplay {S} answers =
    (s : S) (text : List ℕ) (lines later : List Line) (out acts : List ℕ) (end : S) →
    lines_of text ≡ lines ++ later → AnswersLines answers s lines out acts end →
    (again : List ℕ) × AnswersLines answers s (lines_of acts) again acts end

-- from this state on, wherever lines lead, a line has one outcome
abbrev pub AnswersOnceFrom : {S : Type 0} → LineRule S → S → Type 0
AnswersOnceFrom {S} answers s =
    (lines : List Line) (out acts : List ℕ) (now : S) → AnswersLines answers s lines out acts now →
    (line : Line) (reply other : List ℕ) (is_kept also_kept : Bool) (next also : S) →
    answers now line reply is_kept next → answers now line other also_kept also →
    (reply ≡ other) × (is_kept ≡ also_kept) × (next ≡ also)

-- then lines have one outcome
abbrev pub LinesHaveOneOutcome : {S : Type 0} → LineRule S → Type 0
LinesHaveOneOutcome {S} answers =
    (s : S) (lines : List Line) (out other acts also_acts : List ℕ) (end also : S) →
    AnswersOnceFrom answers s →
    AnswersLines answers s lines out acts end → AnswersLines answers s lines other also_acts also →
    (out ≡ other) × (acts ≡ also_acts) × (end ≡ also)

-- lines and then more lines are answered: the replies, what is to be kept and the states join
abbrev pub AnswersJoin : {S : Type 0} → LineRule S → Type 0
AnswersJoin {S} answers =
    (s mid end : S) (lines more : List Line) (out acts later_out later_acts : List ℕ) →
    AnswersLines answers s lines out acts mid →
    AnswersLines answers mid more later_out later_acts end →
    AnswersLines answers s (lines ++ more) (out ++ later_out) (acts ++ later_acts) end
