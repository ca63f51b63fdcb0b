-- The text that reports on a run: its first bad event; or its conflict, and each enactment.
use Rattle.std.specs.Prelude.{◌≡◌, ℕ, ◌⊎◌, List, ◌++◌}
use Rattle.std.specs.List.{AllZip, concat}
use Rattle.bspl_types.specs.declared.event.Event.{Event}
use Rattle.bspl_types.specs.declared.expanded.Expanded.{Expanded}
use Rattle.bspl_types.specs.declared.value.Value.{Value}
use Rattle.enactment_model.specs.declared.bad_event.BadEvent.{BadEvent}
use Rattle.enactment_model.specs.declared.conflicts.Conflict.{Conflict}
use Rattle.enactment_model.specs.BadEvent.{IsFirstBadEvent}
use Rattle.enactment_model.specs.LeastConflict.{IsLeastConflict}
use Rattle.enactment_model.specs.Legal.{IsLegalRun}
use Rattle.enactment_model.specs.Safety.{HasNoConflict}
use Rattle.report.specs.declared.status.Status.{Status as KeyStatus}
use Rattle.report.specs.Keys.{reported_keys}
use Rattle.report.specs.ReplayLines.{conflict_line, illegal_line, key_line, legal_line}
use Rattle.report.specs.ReplayLines.{no_conflict_line}
use Rattle.report.specs.Status.{HasStatus}

-- the run has this least conflict
pub record IsConflictOf (x : Expanded) (run : List Event) (line : List ℕ) : Type 0 where
  pub found : Conflict
  pub least : IsLeastConflict x run found
  pub line_is : line ≡ conflict_line x found

-- the line names the least conflict, or the run has none
abbrev pub IsConflictLine : Expanded → List Event → List ℕ → Type 0
IsConflictLine x run line =
    (HasNoConflict x run × (line ≡ no_conflict_line)) ⊎ IsConflictOf x run line

-- the line says how the run leaves the enactment of the key
pub record IsKeyLine (x : Expanded) (run : List Event) (key : List Value) (line : List ℕ)
    : Type 0 where
  pub status : KeyStatus
  pub is_status : HasStatus x run key status
  pub line_is : line ≡ key_line x key status

-- the text names the first bad event
pub record IsIllegalText (x : Expanded) (run : List Event) (text : List ℕ) : Type 0 where
  pub bad : BadEvent
  pub first : IsFirstBadEvent x run bad
  pub text_is : text ≡ illegal_line x bad

-- the run is legal, and the text has the line of its conflict and one for each key
pub record IsLegalText (x : Expanded) (run : List Event) (text : List ℕ) : Type 0 where
  pub legal : IsLegalRun x run
  pub conflict : List ℕ
  pub is_conflict : IsConflictLine x run conflict
  pub keys : List (List ℕ)
  pub are_keys : AllZip (IsKeyLine x run) (reported_keys x run) keys
  pub text_is : text ≡ legal_line run ++ conflict ++ concat keys

-- the text reports on the run
abbrev pub IsReplayText : Expanded → List Event → List ℕ → Type 0
IsReplayText x run text = IsIllegalText x run text ⊎ IsLegalText x run text
