-- What an image says of a history. Each statement is the contract of a public function.
use Rattle.std.specs.Prelude.{◌≡◌, ℕ, List}
use Rattle.std.specs.List.{All}
use Rattle.bspl_types.specs.declared.expanded.Expanded.{Expanded}
use Rattle.bspl_types.specs.declared.value.Value.{Value}
use Rattle.bspl_types.specs.Admission.{IsAdmitted}
use Rattle.stamped_history.specs.declared.entry.Entry.{Entry}
use Rattle.role_journal.specs.EntryBody.{IsEntry}
use Rattle.role_journal.specs.Journal.{IsJournal}
use Rattle.durable_store.specs.Alien.{IsAlien}
use Rattle.durable_store.specs.History.{IsHistory}

-- an image is a journal of one list of entries at most
abbrev pub JournalsAreOne : Type 0
JournalsAreOne = (x : Expanded) (image : List ℕ) (entries others : List Entry) → IsAdmitted x →
    All (IsEntry x) entries → All (IsEntry x) others →
    IsJournal entries image → IsJournal others image → entries ≡ others

-- in a journal of a history no place is alien
abbrev pub HistoriesAreNative : Type 0
HistoriesAreNative = (x : Expanded) (role : ℕ) (keys : List (List Value)) (image : List ℕ)
    (entries : List Entry) → IsAdmitted x → IsHistory x role keys entries →
    IsJournal entries image → (place : ℕ) → ¬ IsAlien x role keys image place
