-- The text of a log.
use Rattle.std.specs.Prelude.{◌≡◌, ℕ, List, [], ◌∷◌, ◌++◌, map, if◌then◌else◌, codes}
use Rattle.std.specs.List.{flat_map}
use Rattle.clause_core.specs.declared.literal.Lit.{Lit}
use Rattle.refutation_log.specs.declared.refutation.Kind.{Kind}
use Rattle.refutation_log.specs.declared.refutation.Kind.TheVariants.{Safety, Liveness}
use Rattle.refutation_log.specs.declared.refutation.Link.{Link}
use Rattle.refutation_log.specs.declared.refutation.Chain.{Chain}
use Rattle.refutation_log.specs.declared.refutation.Removal.{Removal}
use Rattle.refutation_log.specs.declared.refutation.Log.{Log}
use Rattle.refutation_log.specs.declared.refutation.Entry.{Entry}
use Rattle.refutation_log.specs.declared.refutation.Entry.TheVariants.{Step, Drop}
use Rattle.refutation_log.specs.declared.refutation.Version.{Version}
use Rattle.refutation_log.specs.declared.refutation.Version.TheVariants.{One, Two}
use Rattle.refutation_log.specs.Entries.{entries}
pub use Rattle.list_base.specs.Numeral.{numeral}
pub use Rattle.list_base.specs.Lines.{line_of, end_line}
pub use Rattle.refutation_log.specs.NumberRange.{IsInRange, LinkInRange, StepInRange, EntryInRange, LogInRange}

-- a pivot is its variable, after a minus sign where it is the negation
abbrev pub pivot_text : Lit → List ℕ
pivot_text pivot = if pivot.positive then numeral pivot.var else codes "-" ++ numeral pivot.var

-- the name of a kind
abbrev pub kind_name : Kind → List ℕ
kind_name Safety = codes "safety"
kind_name Liveness = codes "liveness"

-- the digit of a version
abbrev pub version_name : Version → List ℕ
version_name One = codes "1"
version_name Two = codes "2"

-- the first line
abbrev pub header_line : Version → Kind → List ℕ
header_line version kind =
    line_of (codes "log" ∷ version_name version ∷ kind_name kind ∷ [])

-- a link has two fields, its pivot and the number of its clause
abbrev pub link_fields : Link → List (List ℕ)
link_fields link = pivot_text link.pivot ∷ numeral link.clause ∷ []

-- a step has its name, the number of its first clause, and the fields of its links
abbrev pub step_fields : Chain → List (List ℕ)
step_fields step = codes "step" ∷ numeral step.first ∷ flat_map link_fields step.links

-- a removal has its name and the numbers of its clauses
abbrev pub drop_fields : List ℕ → List (List ℕ)
drop_fields numbers = codes "drop" ∷ map numeral numbers

-- the fields of an entry
abbrev pub entry_fields : Entry → List (List ℕ)
entry_fields (Step step) = step_fields step
entry_fields (Drop numbers) = drop_fields numbers

-- the line of an entry
abbrev pub entry_line : Entry → List ℕ
entry_line entry = line_of (entry_fields entry)

-- the text of this version and kind
abbrev pub versioned_text : Version → Kind → Log → List ℕ
versioned_text version kind log =
    header_line version kind ++ flat_map entry_line (entries log) ++ end_line

-- the version that is written: 1 exactly if nothing is removed
abbrev pub least_version : List Removal → Version
least_version [] = One
least_version (removal ∷ removals) = Two

-- the text that is written of a log of this kind
abbrev pub log_text : Kind → Log → List ℕ
log_text kind log = versioned_text (least_version log.removals) kind log

-- the bytes are a text of the log, whose numbers are in range; in version 1 nothing is removed
pub record IsTextOf (bytes : List ℕ) (kind : Kind) (log : Log) : Type 0 where
  pub numbers : LogInRange log
  pub version : Version
  pub allowed : version ≡ One → log.removals ≡ []
  pub text : bytes ≡ versioned_text version kind log
