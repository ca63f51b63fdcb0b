-- What the recorded calls make of a disk in memory, and which images a crash may leave of it.
use Rattle.std.specs.Prelude.{◌≡◌, ℕ, zero, suc, ◌+◌, ◌<◌, ◌≤◌, ◌⊎◌, true, false}
use Rattle.std.specs.Prelude.{List, [], ◌∷◌, ◌++◌, fold, length, replicate, slice_index, take}
use Rattle.role_journal.specs.declared.recording.Call.{Call}
use Rattle.role_journal.specs.declared.recording.Call.TheVariants.{Sync, Write}

-- the content when the disk was made or last restarted, and the calls since then
pub record Record : Type 0 where
  pub base : List ℕ
  pub calls : List Call

-- what a read gives, and what it gave at the last sync that succeeded
pub record Content : Type 0 where
  pub seen : List ℕ
  pub settled : List ℕ

-- the image with these bytes from the offset on; none comes after its end
abbrev pub patched : List ℕ → ℕ → List ℕ → List ℕ
patched [] at bytes = []
patched (old ∷ image) zero [] = old ∷ image
patched (old ∷ image) zero (new ∷ bytes) = new ∷ patched image 0 bytes
patched (old ∷ image) (suc at) bytes = old ∷ patched image at bytes

-- a write that succeeds changes what a read gives, and a sync that succeeds settles it
abbrev pub content_after : Content → Call → Content
content_after c (Write at bytes true) = record c { seen = patched c.seen at bytes }
content_after c (Write at bytes false) = c
content_after c (Sync true) = record c { settled = c.seen }
content_after c (Sync false) = c

-- the content after all recorded calls
abbrev pub content_of : Record → Content
content_of r = fold content_after (record { seen = r.base; settled = r.base }) r.calls

-- an offset, and how many bytes from there on
abbrev pub Range : Type 0
Range = ℕ × ℕ

-- each write, whether it succeeds or not, leaves its range unsettled until a sync succeeds
abbrev pub loosened : List Range → Call → List Range
loosened ranges (Write at bytes done) = (at, length bytes) ∷ ranges
loosened ranges (Sync true) = []
loosened ranges (Sync false) = ranges

-- the ranges that are unsettled after the calls
abbrev pub unsettled : List Call → List Range
unsettled calls = fold loosened [] calls

-- the index lies in none of the ranges
abbrev pub IsOutside : List Range → ℕ → Type 0
IsOutside [] i = Unit {0}
IsOutside (range ∷ ranges) i = ((i < range.0) ⊎ (range.0 + range.1 ≤ i)) × IsOutside ranges i

-- the image has the disk's size, and the settled bytes at each index that is not unsettled
pub record Suits (r : Record) (image : List ℕ) : Type 0 where
  pub size : length image ≡ length r.base
  pub settled : (i : ℕ) → IsOutside (unsettled r.calls) i →
      slice_index image i ≡ slice_index (content_of r).settled i

-- the record of the first of its calls
abbrev pub first_calls : ℕ → Record → Record
first_calls count r = record r { calls = take count r.calls }

-- the image suits the record of its first `from` calls, or of more of them
pub record SuitsSince (r : Record) (from : ℕ) (image : List ℕ) : Type 0 where
  pub count : ℕ
  pub late : from ≤ count
  pub within : count ≤ length r.calls
  pub suits : Suits (first_calls count r) image

-- one more call
abbrev pub with_call : Record → Call → Record
with_call r call = record r { calls = r.calls ++ call ∷ [] }

-- the image with the byte at each index of these ranges
abbrev pub filled : List ℕ → List Range → ℕ → List ℕ
filled image [] byte = image
filled image (range ∷ ranges) byte =
    filled (patched image range.0 (replicate range.1 byte)) ranges byte

-- a disk of zeros without calls
abbrev pub blank_record : ℕ → Record
blank_record size = record { base = replicate size 0; calls = [] }

-- the disk starts again with what was seen, and with the byte wherever it was not settled
abbrev pub restarted : Record → ℕ → Record
restarted r byte = record { base = filled (content_of r).seen (unsettled r.calls) byte; calls = [] }
