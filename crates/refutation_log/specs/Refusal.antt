-- Which line of a text is the first bad one, and in what way it is bad.
use Rattle.std.specs.Prelude.{◌≡◌, ◌≢◌, ℕ, ◌+◌, List, [], ◌∷◌, ◌++◌, length, ◌⊎◌, Result, Err}
use Rattle.refutation_log.specs.declared.refutation.Kind.{Kind}
use Rattle.refutation_log.specs.declared.refutation.Entry.{Entry}
use Rattle.refutation_log.specs.declared.refutation.Entry.TheVariants.{Step, Drop}
use Rattle.refutation_log.specs.declared.refutation.Version.{Version}
use Rattle.refutation_log.specs.declared.refutation.Version.TheVariants.{Two}
use Rattle.refutation_log.specs.declared.refutation.Log.{Log}
use Rattle.refutation_log.specs.declared.refusal.LogRefusal.{LogRefusal}
use Rattle.refutation_log.specs.declared.refusal.LogRefusal.TheVariants.{Form, Number, NoMemory}
use Rattle.refutation_log.specs.LogText.{header_line, entry_line}
use Rattle.refutation_log.specs.NumberRange.{EntryInRange}
use Rattle.list_base.specs.Lines.{Line, lines_of, HasNoEnd, end_line}

-- after this header: a removal names a clause, and needs version 2
abbrev pub MayStand : Line → Entry → Type 0
MayStand header (Step step) = Unit {0}
MayStand header (Drop numbers) =
    (numbers ≢ []) × (kind : Kind) × (header ≡ header_line Two kind)

-- the line is that of an entry which may stand after the header, whatever its numbers
abbrev pub IsEntry : Line → Line → Type 0
IsEntry header line = (entry : Entry) × MayStand header entry × (line ≡ entry_line entry)

-- the line has the form wanted after these: first a header, then entries, `end`, and nothing
abbrev pub HasForm : List Line → Line → Type 0
HasForm [] line = (version : Version) × (kind : Kind) × (line ≡ header_line version kind)
HasForm (header ∷ others) line =
    HasNoEnd others × (IsEntry header line ⊎ (line ≡ end_line))

-- the line is an entry of which a number is out of range
abbrev pub HasBadNumber : Line → Type 0
HasBadNumber line = (entry : Entry) × (line ≡ entry_line entry) × ¬ (EntryInRange entry)

-- each line has the form that is wanted after those before it, and no bad number
abbrev pub AreRight : List Line → Type 0
AreRight lines =
    (before after : List Line) (line : Line) → lines ≡ before ++ line ∷ after →
    HasForm before line × (¬ HasBadNumber line)

-- after right lines comes a line of another form, or none although `end` is missing
abbrev pub IsMisformed : List Line → List Line → Type 0
IsMisformed before [] = HasNoEnd before
IsMisformed before (line ∷ after) = ¬ HasForm before line

-- after right lines a line has its form and a bad number
abbrev pub IsMisnumbered : List Line → List Line → Type 0
IsMisnumbered before [] = ⊥
IsMisnumbered before (line ∷ after) = HasForm before line × HasBadNumber line

-- line n of the text, counted from 1, comes after right lines and is bad
pub record IsFirstBad
    (IsBad : List Line → List Line → Type 0) (text : List ℕ) (n : ℕ) : Type 0 where
  pub before : List Line
  pub after : List Line
  pub lines : lines_of text ≡ before ++ after
  pub right : AreRight before
  pub bad : IsBad before after
  pub number : n ≡ length before + 1

-- the refusal names the first bad line, and in what way it is bad
abbrev pub IsRefusedLog : List ℕ → LogRefusal → Type 0
IsRefusedLog text (Form line) = IsFirstBad IsMisformed text line
IsRefusedLog text (Number line) = IsFirstBad IsMisnumbered text line
IsRefusedLog text NoMemory = Unit {0}

-- the result is this answer, unless memory ran out
abbrev pub Answers : Result (Kind × Log) LogRefusal → Result (Kind × Log) LogRefusal → Type 0
Answers result answer = (result ≡ answer) ⊎ (result ≡ Err NoMemory)
