-- Names as fields of a line, and events as lines.
use Rattle.std.specs.Prelude.{◌≢◌, ℕ, List, All, IsTrue}
use Rattle.bspl_types.specs.declared.event.Event.{Event}
use Rattle.bspl_types.specs.declared.expanded.Expanded.{Expanded}
use Rattle.bspl_types.specs.History.{instance_of}
use Rattle.bspl_types.specs.Name.{is_name}
use Rattle.run_text.specs.RunText.{event_body, IsFitting}

-- the bytes have neither a space nor an LF
pub record IsOneField (bytes : List ℕ) : Type 0 where
  pub no_space : All (λ byte. byte ≢ 32) bytes
  pub no_end : All (λ byte. byte ≢ 10) bytes

-- so it is with each name
abbrev pub NamesAreFields : Type 0
NamesAreFields = (name : List ℕ) → IsTrue (is_name name) → IsOneField name

-- the line of an event has no LF but that at its end
abbrev pub EventsAreLines : Type 0
EventsAreLines =
    (x : Expanded) (event : Event) → IsFitting x (instance_of event) →
    All (λ byte. byte ≢ 10) (event_body x event)
