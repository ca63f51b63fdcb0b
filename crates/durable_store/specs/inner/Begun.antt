-- A store that is restored from the first places of an image, entry by entry.
use Rattle.std.specs.Prelude.{◌≡◌, ℕ, ◌+◌, ◌<◌, ◌≤◌, List, [], ◌∷◌, ◌++◌, length, slice_get, Some}
use Rattle.std.specs.List.{Contains}
use Rattle.bspl_types.specs.declared.expanded.Expanded.{Expanded}
use Rattle.bspl_types.specs.declared.value.Value.{Value}
use Rattle.bspl_types.specs.Admission.{IsAdmitted}
use Rattle.bspl_types.specs.History.{instance_of}
use Rattle.stamped_history.specs.declared.entry.Entry.{Entry}
use Rattle.stamped_history.specs.Local.{IsLocal}
use Rattle.local_store.specs.State.{StoreState}
use Rattle.role_journal.specs.Journal.{IsJournal, IsOpen, places}
use Rattle.durable_store.specs.Alien.{HoldsEntry, IsAlien}
use Rattle.durable_store.specs.History.{IsHistory}
use Rattle.durable_store.specs.Start.{HoldsKeys}
use Rattle.durable_store.specs.State.{IsHistoryFor}

-- the first places are open and hold these entries
pub record Begins (x : Expanded) (image : List ℕ) (entries : List Entry) : Type 0 where
  pub few : length entries ≤ places (length image)
  pub opened : (place : ℕ) → place < length entries → IsOpen image place
  pub each : (place : ℕ) (e : Entry) → slice_get entries place ≡ Some e →
      HoldsEntry x image place e

-- with a history in the first places, none of them is alien
abbrev pub BegunAreNative : Type 0
BegunAreNative = (x : Expanded) (role : ℕ) (keys : List (List Value)) (image : List ℕ)
    (entries : List Entry) → IsAdmitted x → IsHistory x role keys entries →
    Begins x image entries → (place : ℕ) → place < length entries →
    ¬ IsAlien x role keys image place

-- a store of the role with these keys, without entries, and with that room
pub record IsBlank (x : Expanded) (role : ℕ) (keys : List (List Value)) (room : ℕ)
    (s : StoreState) : Type 0 where
  pub protocol_is : s.protocol ≡ x
  pub role_is : s.role ≡ role
  pub keys_are : HoldsKeys s.keys keys
  pub entries_are : s.entries ≡ []
  pub room_is : s.spare ≡ room

-- both are stores of one role with the same keys
pub record IsOfSame (old new : StoreState) : Type 0 where
  pub protocol_is : new.protocol ≡ old.protocol
  pub role_is : new.role ≡ old.role
  pub keys_are : new.keys ≡ old.keys

-- the store has a history, which the first places hold, and a spare event for each other place
pub record IsBegun (image : List ℕ) (s : StoreState) : Type 0 where
  pub history : IsHistoryFor s s.entries
  pub begins : Begins s.protocol image s.entries
  pub room : length s.entries + s.spare ≡ places (length image)

-- the place after the store's entries is closed, if there is one
abbrev pub Stops : List ℕ → StoreState → Type 0
Stops image s = length s.entries < places (length image) → ¬ IsOpen image (length s.entries)

-- the place holds this entry, and the store's history goes on with it
pub record GoesOn (image : List ℕ) (place : ℕ) (s : StoreState) (e : Entry) : Type 0 where
  pub holds : HoldsEntry s.protocol image place e
  pub local : IsLocal s.protocol s.role (s.entries ++ e ∷ [])
  pub held : Contains s.keys (instance_of e.event).key

-- the place holds no entry with which the store's history goes on
pub data Ends (image : List ℕ) (place : ℕ) (s : StoreState) : Type 0 where
  no_entry : ((e : Entry) → ¬ HoldsEntry s.protocol image place e) → Ends image place s
  not_local : (e : Entry) → HoldsEntry s.protocol image place e →
      ¬ IsLocal s.protocol s.role (s.entries ++ e ∷ []) → Ends image place s
  other_key : (e : Entry) → HoldsEntry s.protocol image place e →
      ¬ Contains s.keys (instance_of e.event).key → Ends image place s

-- a store of the role that holds these keys; the image is a journal of its entries, which are a
-- history under them; it has a spare event for each other place; no place is alien
pub record IsRestored (x : Expanded) (role : ℕ) (keys : List (List Value)) (image : List ℕ)
    (s : StoreState) : Type 0 where
  pub protocol_is : s.protocol ≡ x
  pub role_is : s.role ≡ role
  pub keys_are : HoldsKeys s.keys keys
  pub history : IsHistory x role keys s.entries
  pub journal : IsJournal s.entries image
  pub room : length s.entries + s.spare ≡ places (length image)
  pub native : (place : ℕ) → ¬ IsAlien x role keys image place
