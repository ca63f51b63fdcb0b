-- The places of a disk, each for one entry, and what a journal is.
use Rattle.std.specs.Prelude.{◌≡◌, ℕ, ◌+◌, ◌*◌, ◌/◌, ◌<◌, ◌≤◌, ◌⊎◌, min}
use Rattle.std.specs.Prelude.{List, [], ◌∷◌, ◌++◌, length, map, slice_get, slice_index, Some}
use Rattle.std.specs.List.{All}
use Rattle.stamped_history.specs.declared.entry.Entry.{Entry}
use Rattle.role_journal.specs.Crash.{Leaves}
use Rattle.role_journal.specs.EntryBody.{entry_body}
use Rattle.role_journal.specs.Image.{HasBytes}

-- how many places a disk of that size has: each takes 562 bytes, a gate and an entry's body
abbrev pub places : ℕ → ℕ
places size = min (size / 562) 4294967295

-- the offset of a place, where its gate is
abbrev pub gate_of : ℕ → ℕ
gate_of place = 562 * place

-- the gate of the place is open
abbrev pub IsOpen : List ℕ → ℕ → Type 0
IsOpen image place = slice_index image (gate_of place) ≡ 1

-- the first places are open and have these bodies, and all others are closed
pub record HoldsBodies (bodies : List (List ℕ)) (image : List ℕ) : Type 0 where
  pub few : length bodies ≤ places (length image)
  pub whole : All (λ body. length body ≡ 561) bodies
  pub opened : (place : ℕ) → place < length bodies → IsOpen image place
  pub bodies_are : (place : ℕ) (body : List ℕ) → slice_get bodies place ≡ Some body →
      HasBytes image (gate_of place + 1) body
  pub closed : (place : ℕ) → length bodies ≤ place → place < places (length image) →
      ¬ IsOpen image place

-- the image has the same size, and the same bytes behind its last place
pub record HasSameTail (old new : List ℕ) : Type 0 where
  pub size : length new ≡ length old
  pub tail : (i : ℕ) → gate_of (places (length old)) ≤ i → slice_index new i ≡ slice_index old i

-- the image is a journal of these entries
abbrev pub IsJournal : List Entry → List ℕ → Type 0
IsJournal entries image = HoldsBodies (map entry_body entries) image

-- the disk has a journal of these entries, and each crash leaves it
pub record KeepsJournal {D : Type 0} (seen : D → List ℕ) (may_leave : D → List ℕ → Type 0)
    (disk : D) (entries : List Entry) : Type 0 where
  pub journal : IsJournal entries (seen disk)
  pub settled : Leaves (seen disk) (may_leave disk)

-- the image is a journal of these entries, or of one more
abbrev pub IsBeforeOrAfter : List Entry → Entry → List ℕ → Type 0
IsBeforeOrAfter entries entry image =
    IsJournal entries image ⊎ IsJournal (entries ++ entry ∷ []) image
