-- Lines that are answered one after another, and what is kept of them.
use Rattle.std.specs.Prelude.{◌≡◌, ◌≢◌, ◌⊎◌, ℕ, ◌<◌, Bool, false, if◌then◌else◌, List, [], ◌∷◌, ◌++◌, All, length}
use Rattle.list_base.specs.Lines.{Line, lines_of}

-- at a state: the reply that a line gets, whether the line is kept, and the state after it
abbrev pub LineRule : Type 0 → Type 1
LineRule S = S → Line → List ℕ → Bool → S → Type 0

-- a line is kept as a whole, or not at all
abbrev pub kept_of : Line → Bool → List ℕ
kept_of line is_kept = if is_kept then line else []

-- the line gets a reply, which is appended to the text, and is kept or not
pub record RepliesTo {S : Type 0} (answers : LineRule S) (s : S) (line : Line)
    (text text_after : List ℕ) (is_kept : Bool) (next : S) : Type 0 where
  pub reply : List ℕ
  pub answer : answers s line reply is_kept next
  pub appended : text_after ≡ text ++ reply

-- the line gets its reply, and is kept or not, after which the state is `next`; `more` is written
-- for what follows, and `later` is kept of it
pub record AnswersNext {S : Type 0} (answers : LineRule S) (s : S) (line : Line)
    (out acts more later : List ℕ) (next : S) : Type 0 where
  pub reply : List ℕ
  pub is_kept : Bool
  pub answer : answers s line reply is_kept next
  pub written : out ≡ reply ++ more
  pub kept : acts ≡ kept_of line is_kept ++ later

-- the lines are answered in order: these are all replies, all that is to be kept, and the state
-- after the last line
abbrev pub AnswersLines : {S : Type 0} → LineRule S → S → List Line → List ℕ → List ℕ → S → Type 0
AnswersLines answers s [] out acts end = (out ≡ []) × (acts ≡ []) × (end ≡ s)
AnswersLines {S} answers s (line ∷ lines) out acts end =
    (next : S) × (more : List ℕ) × (later : List ℕ) ×
    AnswersNext answers s line out acts more later next ×
    AnswersLines answers next lines more later end

-- however the bytes go on, these are the first lines, and the rest comes after them
abbrev pub StartsWithLines : List ℕ → List Line → List ℕ → Type 0
StartsWithLines bytes lines rest =
    (more : List ℕ) → lines_of (bytes ++ more) ≡ lines ++ lines_of (rest ++ more)

-- more than 65,536 bytes come before the LF of the line
pub record IsLongLine (line : Line) : Type 0 where
  pub body : List ℕ
  pub long : 65536 < length body
  pub ended : line ≡ body ++ 10 ∷ []

-- the line is too long, or it lacks its LF
abbrev pub IsUnread : Line → Type 0
IsUnread line = IsLongLine line ⊎ ((line ≢ []) × All (λ byte. byte ≢ 10) line)

-- a line that is not read gets this reply, is not kept, and changes nothing
abbrev pub LeavesUnread : {S : Type 0} → LineRule S → (S → List ℕ) → Type 0
LeavesUnread {S} answers unread =
    (s : S) (line : Line) → IsUnread line → answers s line (unread s) false s
