-- What holds of merged histories. Each statement is the contract of a public function.
use Rattle.std.specs.Prelude.{◌≡◌, ℕ, ◌≤◌, List, length}
use Rattle.std.specs.List.{All}
use Rattle.bspl_types.specs.declared.event.Event.{Event}
use Rattle.bspl_types.specs.declared.expanded.Expanded.{Expanded}
use Rattle.bspl_types.specs.declared.value.Value.{Value}
use Rattle.bspl_types.specs.History.{history_of}
use Rattle.bspl_types.specs.Knowledge.{Knows}
use Rattle.enactment_model.specs.Legal.{IsLegalRun}
use Rattle.enactment_model.specs.Safety.{SafeProtocol}
use Rattle.stamped_history.specs.declared.entry.Entry.{Entry}
use Rattle.stamped_history.specs.Entries.{events_of, StampsRise}
use Rattle.stamped_history.specs.Explained.{history_at, AreLocal, AreExplained}
use Rattle.stamped_history.specs.Local.{IsLocal}
use Rattle.stamped_history.specs.Merged.{IsMerged}

-- a legal run, in which each role's history is its own, and that has as many events as the greatest
-- stamp or more
pub record IsRunOf (x : Expanded) (histories : List (List Entry)) (run : List Event) : Type 0 where
  pub legal : IsLegalRun x run
  pub histories_kept : (role : ℕ) → history_of x role run ≡ events_of (history_at histories role)
  pub stamps : (role : ℕ) → All (λ e. e.stamp ≤ length run) (history_at histories role)

-- local histories whose receipts are all explained merge into a legal run
abbrev pub HistoriesMerge : Type 0
HistoriesMerge = (x : Expanded) (histories : List (List Entry)) (run : List Event) →
    AreLocal x histories → AreExplained x histories → IsMerged histories run →
    IsRunOf x histories run

-- histories merge into one run at most
abbrev pub MergedRunsAreOne : Type 0
MergedRunsAreOne = (histories : List (List Entry)) (run other : List Event) →
    IsMerged histories run → IsMerged histories other → run ≡ other

-- of a safe protocol, what two roles know of one parameter under one key is one value
abbrev pub StoresAgree : Type 0
StoresAgree = (x : Expanded) (histories : List (List Entry)) (run : List Event) →
    SafeProtocol x → AreLocal x histories → AreExplained x histories → IsMerged histories run →
    (role other : ℕ) (key : List Value) (p : ℕ) (v w : Value) →
    Knows x (events_of (history_at histories role)) key p v →
    Knows x (events_of (history_at histories other)) key p w → v ≡ w

-- the stamps of a local history rise
abbrev pub LocalStampsRise : Type 0
LocalStampsRise =
    (x : Expanded) (role : ℕ) (entries : List Entry) → IsLocal x role entries → StampsRise entries
