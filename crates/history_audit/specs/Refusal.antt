-- Which line of a text of histories is the first bad one.
use Rattle.std.specs.Prelude.{◌≡◌, ◌≢◌, ℕ, ◌+◌, ◌<◌, ◌⊎◌, List, [], ◌∷◌, ◌++◌, length, map}
use Rattle.std.specs.List.{All, flat_map}
use Rattle.bspl_types.specs.declared.event.Event.{Event}
use Rattle.bspl_types.specs.declared.expanded.Expanded.{Expanded}
use Rattle.bspl_types.specs.History.{instance_of, role_of}
use Rattle.list_base.specs.Lines.{end_line, Line, lines_of}
use Rattle.run_text.specs.RunText.{event_line, IsFitting}
use Rattle.history_audit.specs.declared.refusal.HistoryRefusal.{HistoryRefusal}
use Rattle.history_audit.specs.declared.refusal.HistoryRefusal.TheVariants.{Form, NoMemory}
use Rattle.history_audit.specs.declared.section.Section.{Section}
use Rattle.history_audit.specs.HistoryText.{AreSections, head_line, role_line}

-- the lines of a section
abbrev pub section_lines : Expanded → Section → List Line
section_lines x s = role_line x s.role ∷ map (event_line x) s.events

-- the head and the lines of these sections
abbrev pub front_lines : Expanded → List Section → List Line
front_lines x sections = head_line ∷ flat_map (section_lines x) sections

-- the line begins the section of a role that has none yet
pub record OpensSection (x : Expanded) (sections : List Section) (line : Line) : Type 0 where
  pub role : ℕ
  pub known : role < length x.roles
  pub new : All (λ s. s.role ≢ role) sections
  pub is : line ≡ role_line x role

-- the line is that of an event of the last section's role
pub record ExtendsSection (x : Expanded) (sections : List Section) (line : Line) : Type 0 where
  pub front : List Section
  pub last : Section
  pub split : sections ≡ front ++ last ∷ []
  pub event : Event
  pub fitting : IsFitting x (instance_of event)
  pub own : role_of x event ≡ last.role
  pub is : line ≡ event_line x event

-- the line may come after these sections
abbrev pub MayComeAfter : Expanded → List Section → Line → Type 0
MayComeAfter x sections line =
    OpensSection x sections line ⊎ (ExtendsSection x sections line ⊎ (line ≡ end_line))

-- there is no line, or a first one that is not so
abbrev pub BeginsWithout : (Line → Type 0) → List Line → Type 0
BeginsWithout Wanted [] = Unit {0}
BeginsWithout Wanted (line ∷ after) = ¬ Wanted line

-- line n is the first bad one, counted from 1: the head is not there; the head and sections are
-- there, and what comes next may not or is missing; or a line comes after `end`
pub data IsFirstBadLine (x : Expanded) (text : List ℕ) : ℕ → Type 0 where
  no_head : (after : List Line) → lines_of text ≡ after →
      BeginsWithout (λ line. line ≡ head_line) after → IsFirstBadLine x text 1
  breaks : (sections : List Section) (after : List Line) (n : ℕ) → AreSections x sections →
      lines_of text ≡ front_lines x sections ++ after →
      BeginsWithout (MayComeAfter x sections) after → n ≡ length (front_lines x sections) + 1 →
      IsFirstBadLine x text n
  after_end : (sections : List Section) (line : Line) (after : List Line) (n : ℕ) →
      AreSections x sections → lines_of text ≡ front_lines x sections ++ end_line ∷ line ∷ after →
      n ≡ length (front_lines x sections) + 2 → IsFirstBadLine x text n

-- the refusal names the first bad line
abbrev pub IsRefusedText : Expanded → List ℕ → HistoryRefusal → Type 0
IsRefusedText x text (Form line) = IsFirstBadLine x text line
IsRefusedText x text NoMemory = Unit {0}
