-- A text of histories is read in one way, or has one first bad line, and not both.
use Rattle.std.specs.Prelude.{◌≡◌, ◌≢◌, ℕ, List}
use Rattle.bspl_types.specs.declared.event.Event.{Event}
use Rattle.bspl_types.specs.declared.expanded.Expanded.{Expanded}
use Rattle.bspl_types.specs.Admission.{IsAdmitted}
use Rattle.history_audit.specs.declared.refusal.HistoryRefusal.{HistoryRefusal}
use Rattle.history_audit.specs.declared.refusal.HistoryRefusal.TheVariants.{NoMemory}
use Rattle.history_audit.specs.HistoryText.{IsHistoriesText}
use Rattle.history_audit.specs.Refusal.{IsRefusedText}

-- a text gives each role of an admitted protocol one history
abbrev pub HistoriesAreReadOnce : Type 0
HistoriesAreReadOnce =
    (x : Expanded) (text : List ℕ) (one other : List (List Event)) → IsAdmitted x →
    IsHistoriesText x text one → IsHistoriesText x text other → one ≡ other

-- it is refused for one line
abbrev pub HistoriesAreRefusedOnce : Type 0
HistoriesAreRefusedOnce =
    (x : Expanded) (text : List ℕ) (refusal other : HistoryRefusal) → IsAdmitted x →
    refusal ≢ NoMemory → other ≢ NoMemory → IsRefusedText x text refusal →
    IsRefusedText x text other → refusal ≡ other

-- and not both
abbrev pub ReadHistoriesAreNotRefused : Type 0
ReadHistoriesAreNotRefused =
    (x : Expanded) (text : List ℕ) (histories : List (List Event)) (refusal : HistoryRefusal) →
    IsAdmitted x → refusal ≢ NoMemory → IsHistoriesText x text histories →
    ¬ IsRefusedText x text refusal
