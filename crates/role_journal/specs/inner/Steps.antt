-- What each call does to a disk in memory, as the disk's trait says it.
use Rattle.std.specs.Prelude.{◌≡◌, ℕ, ◌+◌, ◌≤◌, Bool, true, List, length}
use Rattle.role_journal.specs.declared.recording.Call.{Call}
use Rattle.role_journal.specs.declared.recording.Call.TheVariants.{Sync, Write}
use Rattle.role_journal.specs.Crash.{Leaves, LeavesTorn, Stays, TimePasses}
use Rattle.role_journal.specs.Image.{HasBytes, IsTorn}
use Rattle.role_journal.specs.Recording.{Record, Suits, SuitsSince, content_of}

-- what is written lies within a disk of that size
abbrev pub IsWithin : ℕ → Call → Type 0
IsWithin size (Write at bytes done) = at + length bytes ≤ size
IsWithin size (Sync done) = Unit {0}

-- time passes from one record to the other
abbrev pub TicksOn : Record → Record → Type 0
TicksOn old new = TimePasses (length old.calls) (length new.calls) (SuitsSince old)
    (SuitsSince new) (Suits new)

-- bytes were written, or a write failed
pub record IsWrite (old new : Record) (at : ℕ) (bytes : List ℕ) (done : Bool) : Type 0 where
  pub bytes_are : done ≡ true → HasBytes (content_of new).seen at bytes
  pub others : IsTorn at (length bytes) (content_of old).seen (content_of new).seen
  pub crash : LeavesTorn at (length bytes) (Suits old) (Suits new)
  pub time : TicksOn old new

-- the disk holds what it held
abbrev pub RecordStays : Record → Record → Type 0
RecordStays old new =
    Stays (λ r. (content_of r).seen) Suits (λ r. length r.calls) SuitsSince old new

-- the disk was synced, or a sync failed
pub record IsSync (old new : Record) (done : Bool) : Type 0 where
  pub durable : done ≡ true → Leaves (content_of new).seen (Suits new)
  pub stays : RecordStays old new

-- the disk was restarted
pub record Restarts (old new : Record) : Type 0 where
  pub image : Suits old (content_of new).seen
  pub size : length (content_of new).seen ≡ length (content_of old).seen
  pub settled : Leaves (content_of new).seen (Suits new)
  pub clock : length new.calls ≡ 0
