-- How far the lines of a stream are answered, with a source, a sink and a journal.
use Rattle.std.specs.Prelude.{◌≡◌, ◌≢◌, ◌⊎◌, ℕ, ◌<◌, ◌≤◌, List, ◌++◌, All, Option, Result, IsErrOf, length}
use Rattle.std.specs.Io.KnownBytes.{Appends, Consumes, IsAtEnd}
use Rattle.bspl_io.specs.Sink.{AppendsPrefix}
use Rattle.list_base.specs.Lines.{Line, lines_of}
use Rattle.kept_lines.specs.Answers.{AnswersLines, LineRule, StartsWithLines}
use Rattle.kept_lines.specs.Flow.{Flow, IsCountedIf, StreamFaults}
use Rattle.kept_lines.specs.declared.stream_refusal.StreamRefusal.{StreamRefusal}
use Rattle.kept_lines.specs.declared.stream_refusal.StreamRefusal.TheVariants as refusal

-- these bytes came, and these lines were answered; what is to be kept of them is kept
pub record HasFlowed {S : Type 0} (answers : LineRule S) (s : S) (f : Flow) : Type 0 where
  pub bytes : List ℕ
  pub taken : Consumes f.remaining f.remaining_after bytes
  pub lines : List Line
  pub out : List ℕ
  pub acts : List ℕ
  pub now : S
  pub answered : AnswersLines answers s lines out acts now
  pub acts_kept : Appends f.kept f.kept_after acts

-- the input was read to its end, each line is answered, and all replies were written; some bytes
-- were taken ahead
pub record AnswersAll {S : Type 0} (answers : LineRule S) (s : S) (ahead : List ℕ) (limit : ℕ)
    (f : Flow) (end : S) : Type 0 where
  pub flowed : HasFlowed answers s f
  pub at_end : IsAtEnd f.remaining_after
  pub short : length (ahead ++ flowed.bytes) ≤ limit
  pub all : flowed.lines ≡ lines_of (ahead ++ flowed.bytes)
  pub written : Appends f.contents f.contents_after flowed.out
  pub last : end ≡ flowed.now

-- the first lines are answered up to the rest, and exactly their replies were written
pub record AnswersSome {S : Type 0} (answers : LineRule S) (s : S) (ahead : List ℕ) (f : Flow)
    : Type 0 where
  pub flowed : HasFlowed answers s f
  pub rest : List ℕ
  pub first : StartsWithLines (ahead ++ flowed.bytes) flowed.lines rest
  pub written : Appends f.contents f.contents_after flowed.out

-- these are the first lines however the bytes go on, or all lines where the input is at its end
abbrev pub AreFirst : List ℕ → List Line → Option (List ℕ) → Type 0
AreFirst bytes lines remaining = ((rest : List ℕ) × StartsWithLines bytes lines rest)
    ⊎ ((lines ≡ lines_of bytes) × IsAtEnd remaining)

-- the first lines are answered, and a prefix of their replies was written
pub record CutsAnswers {S : Type 0} (answers : LineRule S) (s : S) (ahead : List ℕ) (limit : ℕ)
    (f : Flow) : Type 0 where
  pub flowed : HasFlowed answers s f
  pub short : length (ahead ++ flowed.bytes) ≤ limit
  pub first : AreFirst (ahead ++ flowed.bytes) flowed.lines f.remaining_after
  pub written : AppendsPrefix f.contents f.contents_after flowed.out

-- how far it came; each line that has come whole is answered before more is read, and what is to
-- be kept of lines is kept before their replies are written
abbrev pub StopsAnswering : {S : Type 0} → LineRule S → S → List ℕ → ℕ → Flow → StreamRefusal →
    Type 0
StopsAnswering answers s ahead limit f refusal.ReadFault =
    (some : AnswersSome answers s ahead f) × (length (ahead ++ some.flowed.bytes) ≤ limit) ×
    All (λ byte. byte ≢ 10) some.rest
StopsAnswering answers s ahead limit f refusal.JournalFault =
    (some : AnswersSome answers s ahead f) × (length (ahead ++ some.flowed.bytes) ≤ limit)
StopsAnswering answers s ahead limit f refusal.TooLong =
    (some : AnswersSome answers s ahead f) × (limit < length (ahead ++ some.flowed.bytes))
StopsAnswering answers s ahead limit f refusal.WriteFault = CutsAnswers answers s ahead limit f
StopsAnswering answers s ahead limit f refusal.NoMemory = CutsAnswers answers s ahead limit f

-- the answer names the one fault that was counted
pub record NamesItsFault {X : Type 0} (c : StreamFaults) (result : Result X StreamRefusal)
    : Type 0 where
  pub read : IsCountedIf (IsErrOf result refusal.ReadFault) c.reads c.reads_after
  pub write : IsCountedIf (IsErrOf result refusal.WriteFault) c.writes c.writes_after
  pub keep : IsCountedIf (IsErrOf result refusal.JournalFault) c.keeps c.keeps_after
