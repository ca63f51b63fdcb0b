-- How a line of a text of histories is taken into the sections before it.
use Rattle.std.specs.Prelude.{◌≡◌, ◌≢◌, ◌⊎◌, ℕ, ◌<◌, List, [], ◌∷◌, ◌++◌, codes, length}
use Rattle.std.specs.List.{All, Any, join_with_byte}
use Rattle.bspl_types.specs.declared.event.Event.{Event}
use Rattle.bspl_types.specs.declared.expanded.Expanded.{Expanded}
use Rattle.bspl_types.specs.History.{instance_of, role_of}
use Rattle.bspl_types.specs.Expansion.{role_name}
use Rattle.run_text.specs.RunText.{event_body, IsFitting}
use Rattle.history_audit.specs.declared.section.Section.{Section}
use Rattle.history_audit.specs.Refusal.{ExtendsSection, OpensSection}
use Rattle.history_audit.specs.Histories.{events_at}

-- the line that begins a role's section, without its LF
abbrev pub role_body : Expanded → ℕ → List ℕ
role_body x role = join_with_byte 32 (codes "role" ∷ role_name x role ∷ [])

-- some section is the role's
abbrev pub HasSection : List Section → ℕ → Type 0
HasSection sections role = Any (λ s. s.role ≡ role) sections

-- the role, which had no section, has an empty one at the end
pub record IsBegun (before : List Section) (role : ℕ) (after : List Section) : Type 0 where
  pub new : ¬ HasSection before role
  pub is : after ≡ before ++ record { role = role; events = [] } ∷ []

-- the last section is that of the event's role, and has the event at its end
pub record IsExtended (x : Expanded) (before : List Section) (event : Event)
    (after : List Section) : Type 0 where
  pub front : List Section
  pub last : Section
  pub split : before ≡ front ++ last ∷ []
  pub own : role_of x event ≡ last.role
  pub is : after ≡ front ++ record last { events = last.events ++ event ∷ [] } ∷ []

-- the last section is not that of the event's role
abbrev pub IsForeign : Expanded → List Section → Event → Type 0
IsForeign x sections event =
    (front : List Section) (last : Section) → sections ≡ front ++ last ∷ [] →
    role_of x event ≢ last.role

-- the line begins a section
pub record BeginsBy (x : Expanded) (before : List Section) (line : List ℕ) (after : List Section)
    : Type 0 where
  pub role : ℕ
  pub known : role < length x.roles
  pub begun : IsBegun before role after
  pub is : line ≡ role_body x role

-- the line is that of an event of the last section
pub record ExtendsBy (x : Expanded) (before : List Section) (line : List ℕ) (after : List Section)
    : Type 0 where
  pub event : Event
  pub fitting : IsFitting x (instance_of event)
  pub extended : IsExtended x before event after
  pub is : line ≡ event_body x event

-- the line, without its LF, is taken in
abbrev pub IsTaken : Expanded → List Section → List ℕ → List Section → Type 0
IsTaken x before line after = BeginsBy x before line after ⊎ ExtendsBy x before line after

-- the line, without its LF, neither begins a section nor is that of an event of the last one
pub record BreaksOff (x : Expanded) (sections : List Section) (line : List ℕ) : Type 0 where
  pub opens : ¬ OpensSection x sections (line ++ codes "\n")
  pub extends : ¬ ExtendsSection x sections (line ++ codes "\n")

-- each role has the history of its section; without one it has none
pub record AreHistoriesOf (x : Expanded) (sections : List Section)
    (histories : List (List Event)) : Type 0 where
  pub count : length histories ≡ length x.roles
  pub named : All (λ s. events_at histories s.role ≡ s.events) sections
  pub unnamed : (role : ℕ) → All (λ s. s.role ≢ role) sections → events_at histories role ≡ []
