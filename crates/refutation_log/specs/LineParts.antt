-- What is learnt by reading a part of a text.
use Rattle.std.specs.Prelude.{◌≡◌, ◌≢◌, ℕ, List, [], Result, Ok, Err, codes}
use Rattle.std.specs.List.{join_with_byte}
use Rattle.refutation_log.specs.declared.line_error.LineError.{LineError}
use Rattle.refutation_log.specs.declared.line_error.LineError.TheVariants as errors
use Rattle.refutation_log.specs.declared.refusal.LogRefusal.{LogRefusal}
use Rattle.refutation_log.specs.declared.refusal.LogRefusal.TheVariants as refusals
use Rattle.refutation_log.specs.declared.body.BodyLine.{BodyLine}
use Rattle.refutation_log.specs.declared.body.BodyLine.TheVariants as lines
use Rattle.refutation_log.specs.declared.refutation.Entry.{Entry}
use Rattle.refutation_log.specs.declared.refutation.Entry.TheVariants.{Step, Drop}
use Rattle.refutation_log.specs.declared.refutation.Version.{Version}
use Rattle.refutation_log.specs.declared.refutation.Version.TheVariants.{Two}
use Rattle.refutation_log.specs.LogText.{entry_fields}
use Rattle.refutation_log.specs.NumberRange.{EntryInRange}

-- the part spells the value read, which is in range; or it spells none; or one out of range
abbrev pub IsReading : {A X : Type 0} → (A → X) → (A → Type 0) → X → Result A LineError → Type 0
IsReading spelling InRange part (Ok value) = (part ≡ spelling value) × InRange value
IsReading {A} spelling InRange part (Err errors.Form) = (value : A) → part ≢ spelling value
IsReading {A} spelling InRange part (Err errors.Number) =
    (value : A) × (part ≡ spelling value) × ¬ (InRange value)
IsReading spelling InRange part (Err errors.NoMemory) = Unit {0}

-- the same, where only some values may be spelled
abbrev pub IsReadingAmong :
    {A X : Type 0} → (A → Type 0) → (A → X) → (A → Type 0) → X → Result A LineError → Type 0
IsReadingAmong May spelling InRange part (Ok value) =
    May value × (part ≡ spelling value) × InRange value
IsReadingAmong {A} May spelling InRange part (Err errors.Form) =
    (value : A) → May value → part ≢ spelling value
IsReadingAmong {A} May spelling InRange part (Err errors.Number) =
    (value : A) × May value × (part ≡ spelling value) × ¬ (InRange value)
IsReadingAmong May spelling InRange part (Err errors.NoMemory) = Unit {0}

-- the refusal of a line that has this error
abbrev pub refusal_of_line : LineError → ℕ → LogRefusal
refusal_of_line errors.Form line = refusals.Form line
refusal_of_line errors.Number line = refusals.Number line
refusal_of_line errors.NoMemory line = refusals.NoMemory

-- a line after the header, without its LF
abbrev pub body_of : BodyLine → List ℕ
body_of (lines.Entry entry) = join_with_byte 32 (entry_fields entry)
body_of lines.End = codes "end"

-- the numbers of the line are in range
abbrev pub LineInRange : BodyLine → Type 0
LineInRange (lines.Entry entry) = EntryInRange entry
LineInRange lines.End = Unit {0}

-- the entry may stand in a text of the version: a removal names a clause, and needs version 2
abbrev pub EntryStands : Version → Entry → Type 0
EntryStands version (Step step) = Unit {0}
EntryStands version (Drop numbers) = (version ≡ Two) × (numbers ≢ [])

-- the line may stand in a text of the version
abbrev pub LineStands : Version → BodyLine → Type 0
LineStands version (lines.Entry entry) = EntryStands version entry
LineStands version lines.End = Unit {0}
