-- Which open places of a disk hold nothing that the role's store can have written.
use Rattle.std.specs.Prelude.{◌≡◌, ◌≢◌, ℕ, ◌+◌, ◌<◌, ◌⊎◌, List, length, slice_get, Some}
use Rattle.bspl_types.specs.declared.expanded.Expanded.{Expanded}
use Rattle.bspl_types.specs.declared.value.Value.{Value}
use Rattle.bspl_types.specs.History.{role_of}
use Rattle.stamped_history.specs.declared.entry.Entry.{Entry}
use Rattle.stamped_history.specs.Local.{IsLocal}
use Rattle.role_journal.specs.EntryBody.{IsEntry, entry_body}
use Rattle.role_journal.specs.Image.{HasBytes}
use Rattle.role_journal.specs.Journal.{IsOpen, gate_of, places}
use Rattle.durable_store.specs.History.{AreUnder}

-- the place holds the body of this entry of the protocol
pub record HoldsEntry (x : Expanded) (image : List ℕ) (place : ℕ) (e : Entry) : Type 0 where
  pub entry : IsEntry x e
  pub body : HasBytes image (gate_of place + 1) (entry_body e)

-- these are the entries of the places up to and with this one
pub record AreEntriesTo (x : Expanded) (image : List ℕ) (place : ℕ) (entries : List Entry)
    : Type 0 where
  pub count : length entries ≡ place + 1
  pub each : (i : ℕ) (e : Entry) → slice_get entries i ≡ Some e → HoldsEntry x image i e

-- the place does not hold an entry of the role
abbrev pub HoldsNone : Expanded → ℕ → List ℕ → ℕ → Type 0
HoldsNone x role image place =
    (e : Entry) → HoldsEntry x image place e → role_of x e.event ≢ role

-- the entries up to and with the place are not local
abbrev pub IsNotLocal : Expanded → ℕ → List ℕ → ℕ → Type 0
IsNotLocal x role image place =
    (entries : List Entry) × AreEntriesTo x image place entries × ¬ IsLocal x role entries

-- one of the entries up to and with the place has another key than these
abbrev pub HasOtherKey : Expanded → List (List Value) → List ℕ → ℕ → Type 0
HasOtherKey x keys image place =
    (entries : List Entry) × AreEntriesTo x image place entries × ¬ AreUnder keys entries

-- an earlier place is closed
abbrev pub ComesLate : List ℕ → ℕ → Type 0
ComesLate image place = (earlier : ℕ) × (earlier < place) × ¬ IsOpen image earlier

-- the place is open, and the role's store did not write it under these keys
pub record IsAlien (x : Expanded) (role : ℕ) (keys : List (List Value)) (image : List ℕ)
    (place : ℕ) : Type 0 where
  pub within : place < places (length image)
  pub opened : IsOpen image place
  pub why : HoldsNone x role image place ⊎ (IsNotLocal x role image place ⊎
      (HasOtherKey x keys image place ⊎ ComesLate image place))

-- it is the first such place
pub record IsFirstAlien (x : Expanded) (role : ℕ) (keys : List (List Value)) (image : List ℕ)
    (place : ℕ) : Type 0 where
  pub alien : IsAlien x role keys image place
  pub first : (earlier : ℕ) → earlier < place → ¬ IsAlien x role keys image earlier
