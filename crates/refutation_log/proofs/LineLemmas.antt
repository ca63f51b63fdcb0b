-- What is read of a step or of a removal is read of an entry and of a line.
use Rattle.std.proofs.Common.{◌≡◌, ◌≢◌, ℕ, List, All, Result, Ok, Err, refl, codes}
use Rattle.refutation_log.specs.declared.body.BodyLine.{BodyLine}
use Rattle.refutation_log.specs.declared.body.BodyLine.TheVariants as body
use Rattle.refutation_log.specs.declared.line_error.LineError.{LineError}
use Rattle.refutation_log.specs.declared.line_error.LineError.TheVariants as errors
use Rattle.refutation_log.specs.declared.refutation.Chain.{Chain}
use Rattle.refutation_log.specs.declared.refutation.Entry.{Entry}
use Rattle.refutation_log.specs.declared.refutation.Entry.TheVariants.{Step, Drop}
use Rattle.refutation_log.specs.declared.refutation.Version.{Version}
use Rattle.refutation_log.specs.declared.refutation.Version.TheVariants.{Two}
use Rattle.refutation_log.specs.Entries.{NamesClause}
use Rattle.refutation_log.specs.NumberRange.{IsInRange, StepInRange, EntryInRange}
use Rattle.refutation_log.specs.LineParts.{IsReading, IsReadingAmong, EntryStands, LineStands, body_of, LineInRange}
use Rattle.refutation_log.proofs.Fields.{step_body, drop_body, entry_body, NamesSome}

-- a line that is no step is no entry where no removal is
no_entry : (version : Version) (line : List ℕ) → ((step : Chain) → line ≢ step_body step) → ((numbers : List ℕ) → EntryStands version (Drop numbers) → line ≢ drop_body numbers) → (entry : Entry) → EntryStands version entry → line ≢ entry_body entry
no_entry version line no_step no_drop (Step step) stands = no_step step
no_entry version line no_step no_drop (Drop numbers) stands = no_drop numbers stands

-- an error of the step that is no bad form is one of the entry
pub step_error : (version : Version) (line : List ℕ) (error : LineError) → error ≢ errors.Form → IsReading step_body StepInRange line (Err error) → IsReadingAmong (EntryStands version) entry_body EntryInRange line (Err error)
step_error version line errors.Form other read = absurd (other refl)
step_error version line errors.Number other read = (Step read.0, tt, read.1, read.2)
step_error version line errors.NoMemory other read = tt

-- the numbers may be those of a removal in a text of the version
abbrev pub MayDrop : Version → List ℕ → Type 0
MayDrop version numbers = EntryStands version (Drop numbers)

-- an error of the removal is one of the entry where the line is no step
pub drop_error : (version : Version) (line : List ℕ) (error : LineError) → ((step : Chain) → line ≢ step_body step) → IsReadingAmong (MayDrop version) drop_body (All IsInRange) line (Err error) → IsReadingAmong (EntryStands version) entry_body EntryInRange line (Err error)
drop_error version line errors.Form no_step read = no_entry version line no_step read
drop_error version line errors.Number no_step read = (Drop read.0, read.1, read.2, read.3)
drop_error version line errors.NoMemory no_step read = tt

-- in version 2 each removal that names a clause may stand
pub two_drop : (version : Version) (line : List ℕ) (r : Result (List ℕ) LineError) → version ≡ Two → IsReadingAmong NamesSome drop_body (All IsInRange) line r → IsReadingAmong (MayDrop version) drop_body (All IsInRange) line r
two_drop version line (Ok numbers) two read = ((two, read.0), read.1, read.2)
two_drop version line (Err errors.Form) two read = λ numbers may. read numbers may.1
two_drop version line (Err errors.Number) two read = (read.0, (two, read.1), read.2, read.3)
two_drop version line (Err errors.NoMemory) two read = tt

-- what may stand names a clause if it is a removal
pub stands_names : (version : Version) (entry : Entry) → EntryStands version entry → NamesClause entry
stands_names version (Step step) stands = tt
stands_names version (Drop numbers) stands = stands.1

no_line : (version : Version) (line : List ℕ) → line ≢ codes "end" → ((entry : Entry) → EntryStands version entry → line ≢ entry_body entry) → (value : BodyLine) → LineStands version value → line ≢ body_of value
no_line version line other none (body.Entry entry) stands = none entry stands
no_line version line other none body.End stands = other

-- an error of the entry is one of the line where it is not `end`
pub line_error : (version : Version) (line : List ℕ) (error : LineError) → line ≢ codes "end" → IsReadingAmong (EntryStands version) entry_body EntryInRange line (Err error) → IsReadingAmong (LineStands version) body_of LineInRange line (Err error)
line_error version line errors.Form other read = no_line version line other read
line_error version line errors.Number other read = (body.Entry read.0, read.1, read.2, read.3)
line_error version line errors.NoMemory other read = tt
