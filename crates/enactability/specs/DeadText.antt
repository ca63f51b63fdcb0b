-- The text of a log on a message: as that of any log, but for the first line, which names it.
use Rattle.std.specs.Prelude.{◌≡◌, ◌<◌, ℕ, List, [], ◌∷◌, ◌++◌, codes, length}
use Rattle.std.specs.List.{flat_map}
use Rattle.bspl_types.specs.declared.expanded.Expanded.{Expanded}
use Rattle.bspl_types.specs.Expansion.{message_name}
use Rattle.list_base.specs.Lines.{end_line, line_of}
use Rattle.refutation_log.specs.declared.refutation.Log.{Log}
use Rattle.refutation_log.specs.declared.refutation.Version.{Version}
use Rattle.refutation_log.specs.declared.refutation.Version.TheVariants.{One}
use Rattle.refutation_log.specs.Entries.{entries}
use Rattle.refutation_log.specs.LogText.{LogInRange, entry_line, least_version, version_name}

-- the first line
abbrev pub dead_title : Expanded → Version → ℕ → List ℕ
dead_title x version m =
    line_of (codes "log" ∷ version_name version ∷ codes "dead" ∷ message_name x m ∷ [])

-- the text of this version
abbrev pub versioned_dead_text : Expanded → Version → ℕ → Log → List ℕ
versioned_dead_text x version m log =
    dead_title x version m ++ flat_map entry_line (entries log) ++ end_line

-- the text that is written: of version 1 exactly if nothing is removed
abbrev pub dead_text : Expanded → ℕ → Log → List ℕ
dead_text x m log = versioned_dead_text x (least_version log.removals) m log

-- the bytes are a text of the log on a message of the protocol; in version 1 nothing is removed
pub record IsDeadText (x : Expanded) (bytes : List ℕ) (m : ℕ) (log : Log) : Type 0 where
  pub known : m < length x.messages
  pub numbers : LogInRange log
  pub version : Version
  pub allowed : version ≡ One → log.removals ≡ []
  pub text : bytes ≡ versioned_dead_text x version m log
