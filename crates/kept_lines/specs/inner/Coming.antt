-- What the loop over the input keeps, and how the lines of a piece are answered.
use Rattle.std.specs.Prelude.{◌≡◌, ◌≢◌, ℕ, ◌≤◌, ◌+◌, ◌-◌, Bool, List, [], ◌∷◌, ◌++◌, All, Result, Err, length, take}
use Rattle.list_base.specs.Lines.{Line, lines_of}
use Rattle.kept_lines.specs.Answers.{AnswersLines, LineRule, RepliesTo, StartsWithLines, kept_of}
use Rattle.kept_lines.specs.Passage.{KeepsFirst, Passage, PassesNothing}
use Rattle.kept_lines.specs.Flow.{Flow}
use Rattle.kept_lines.specs.Stream.{AnswersSome}
use Rattle.kept_lines.specs.declared.answer.AnswerRefusal.{AnswerRefusal}
use Rattle.kept_lines.specs.declared.answer.AnswerRefusal.TheVariants.{NoMemory}
use Rattle.kept_lines.specs.declared.batch.Batch.{Batch}

-- the most bytes of a begun line that are held: enough to show that it is too long
abbrev pub begun_limit : ℕ
begun_limit = 65537

-- what is held of a begun line when these bytes are added to it
abbrev pub begun_more : List ℕ → List ℕ → List ℕ
begun_more begun bytes = begun ++ take (begun_limit - length begun) bytes

-- the first lines of the bytes are answered, and the rest is not yet
pub record AnsweredUpTo {S : Type 0} (answers : LineRule S) (s : S) (bytes out acts : List ℕ)
    (now : S) (rest : List ℕ) : Type 0 where
  pub lines : List Line
  pub first : StartsWithLines bytes lines rest
  pub answered : AnswersLines answers s lines out acts now

-- each whole line of the bytes is answered; of the begun line the first bytes are held
pub record HasAnswered {S : Type 0} (answers : LineRule S) (s : S) (bytes out acts : List ℕ)
    (now : S) (begun : List ℕ) : Type 0 where
  pub rest : List ℕ
  pub unended : All (λ byte. byte ≢ 10) rest
  pub held : begun ≡ take begun_limit rest
  pub up_to : AnsweredUpTo answers s bytes out acts now rest

-- whatever came before, the piece after it is answered so
pub record AnswersPiece {S : Type 0} (answers : LineRule S) (old : S) (begun piece : List ℕ)
    (new : S) (begun_after out acts : List ℕ) : Type 0 where
  pub answers_more : (s : S) (bytes before kept : List ℕ)
      → HasAnswered answers s bytes before kept old begun
      → HasAnswered answers s (bytes ++ piece) (before ++ out) (kept ++ acts) new begun_after

-- the piece is answered up to the rest
pub record AnswersPieceUpTo {S : Type 0} (answers : LineRule S) (old : S)
    (begun piece rest : List ℕ) (new : S) (begun_after out acts : List ℕ) : Type 0 where
  pub done : List ℕ
  pub whole : piece ≡ done ++ rest
  pub answered : AnswersPiece answers old begun done new begun_after out acts

-- the line with this body is answered
pub record AddsAnswer {S : Type 0} (answers : LineRule S) (s : S) (body : List ℕ) (next : S)
    (old new : Batch) : Type 0 where
  pub is_kept : Bool
  pub replies : RepliesTo answers s (body ++ 10 ∷ []) old.replies new.replies is_kept next
  pub acts : new.acts ≡ old.acts ++ kept_of (body ++ 10 ∷ []) is_kept

-- each line is answered that begins with these bytes, as far as they are held
pub record AnswersBody {S : Type 0} (answers : LineRule S) (s : S) (held : List ℕ) (next : S)
    (old new : Batch) : Type 0 where
  pub adds : (body : List ℕ) → take begun_limit body ≡ take begun_limit held
      → AddsAnswer answers s body next old new

-- the line is answered of which these bytes are held, and which ends with the last ones
pub record EndsLineOf {S : Type 0} (answers : LineRule S) (s : S) (begun last : List ℕ) (next : S)
    (old new : Batch) : Type 0 where
  pub adds : (rest : List ℕ) → begun ≡ take begun_limit rest
      → AddsAnswer answers s (rest ++ last) next old new

-- the piece is answered, its lines are kept, and then its replies are written; or there was no
-- memory for the answers
pub data PassesPiece {S : Type 0} (answers : LineRule S) (old : S) (begun piece : List ℕ) (new : S)
    (begun_after : List ℕ) (p : Passage) (result : Result (Unit {0}) AnswerRefusal) : Type 0 where
  passed : (out acts : List ℕ) → AnswersPiece answers old begun piece new begun_after out acts
      → KeepsFirst p acts out result
      → PassesPiece answers old begun piece new begun_after p result
  unanswered : PassesNothing p → result ≡ Err NoMemory
      → PassesPiece answers old begun piece new begun_after p result

-- so many bytes came, with those taken ahead, and each whole line is answered
pub record IsAnsweredSoFar {S : Type 0} (answers : LineRule S) (s : S) (ahead : List ℕ) (limit : ℕ)
    (f : Flow) (count : ℕ) (now : S) (begun : List ℕ) : Type 0 where
  pub some : AnswersSome answers s ahead f
  pub counted : count ≡ length (ahead ++ some.flowed.bytes)
  pub short : count ≤ limit
  pub unended : All (λ byte. byte ≢ 10) some.rest
  pub held : begun ≡ take begun_limit some.rest
  pub state : some.flowed.now ≡ now

-- the reply to a begun line when the input ends
abbrev pub last_unread : {S : Type 0} → (S → List ℕ) → S → List ℕ → List ℕ
last_unread unread s [] = []
last_unread unread s (byte ∷ bytes) = unread s

-- the lines of the text before the rest are kept, as many as that
pub record RestoresUpTo {S : Type 0} (answers : LineRule S) (s : S) (text rest : List ℕ) (now : S)
    (count : ℕ) : Type 0 where
  pub before : List ℕ
  pub whole : text ≡ before ++ rest
  pub joins : (more : List ℕ) → lines_of (before ++ more) ≡ lines_of before ++ lines_of more
  pub out : List ℕ
  pub kept : AnswersLines answers s (lines_of before) out before now
  pub counted : count ≡ length (lines_of before)
  pub few : count + length rest ≤ length text
