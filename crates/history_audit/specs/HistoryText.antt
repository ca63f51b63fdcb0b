-- The text of histories: a head, a section for each role that has one, and `end`.
use Rattle.std.specs.Prelude.{◌≡◌, ◌≢◌, ℕ, ◌<◌, List, [], ◌∷◌, ◌++◌, codes, length}
use Rattle.std.specs.List.{All, AllPairs, flat_map}
use Rattle.bspl_types.specs.declared.event.Event.{Event}
use Rattle.bspl_types.specs.declared.expanded.Expanded.{Expanded}
use Rattle.bspl_types.specs.History.{instance_of, role_of}
use Rattle.bspl_types.specs.Expansion.{role_name}
use Rattle.list_base.specs.Lines.{line_of, end_line}
use Rattle.run_text.specs.RunText.{event_line, IsFitting}
use Rattle.history_audit.specs.declared.section.Section.{Section}
use Rattle.history_audit.specs.Histories.{events_at}

-- the first line: the version is 1
abbrev pub head_line : List ℕ
head_line = line_of (codes "histories" ∷ codes "1" ∷ [])

-- the line that begins a role's section
abbrev pub role_line : Expanded → ℕ → List ℕ
role_line x role = line_of (codes "role" ∷ role_name x role ∷ [])

-- a section: its role's line, and a line for each event
abbrev pub section_text : Expanded → Section → List ℕ
section_text x s = role_line x s.role ++ flat_map (event_line x) s.events

-- the text of these sections
abbrev pub histories_text : Expanded → List Section → List ℕ
histories_text x sections = head_line ++ flat_map (section_text x) sections ++ end_line

-- the role exists, and the events fit and are its own
pub record IsSection (x : Expanded) (s : Section) : Type 0 where
  pub known : s.role < length x.roles
  pub fit : All (λ e. IsFitting x (instance_of e)) s.events
  pub own : All (λ e. role_of x e ≡ s.role) s.events

-- each is a section, and no two are of one role
pub record AreSections (x : Expanded) (sections : List Section) : Type 0 where
  pub each : All (IsSection x) sections
  pub distinct : AllPairs (λ s t. s.role ≢ t.role) sections

-- the text has sections, and each role has the history of its section; without one it has none
pub record IsHistoriesText (x : Expanded) (bytes : List ℕ) (histories : List (List Event))
    : Type 0 where
  pub sections : List Section
  pub are : AreSections x sections
  pub text : bytes ≡ histories_text x sections
  pub count : length histories ≡ length x.roles
  pub named : All (λ s. events_at histories s.role ≡ s.events) sections
  pub unnamed : (role : ℕ) → All (λ s. s.role ≢ role) sections → events_at histories role ≡ []
