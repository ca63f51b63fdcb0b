-- Laws of the texts of logs.
use Rattle.std.specs.Prelude.{◌≡◌, ◌≢◌, ℕ, ◌≤◌, List, length}
use Rattle.std.specs.List.{flat_map}
use Rattle.refutation_log.specs.declared.refutation.Kind.{Kind}
use Rattle.refutation_log.specs.declared.refutation.Log.{Log}
use Rattle.refutation_log.specs.declared.refusal.LogRefusal.{LogRefusal}
use Rattle.refutation_log.specs.declared.refusal.LogRefusal.TheVariants.{NoMemory}
use Rattle.refutation_log.specs.Entries.{entries}
use Rattle.refutation_log.specs.LogText.{IsTextOf, entry_line, log_text}
use Rattle.refutation_log.specs.NumberRange.{LogInRange}
use Rattle.refutation_log.specs.Refusal.{IsRefusedLog}

-- what is written of a log is a text of it
abbrev pub WrittenTextsAreTexts : Type 0
WrittenTextsAreTexts =
    (kind : Kind) (log : Log) → LogInRange log → IsTextOf (log_text kind log) kind log

-- a text is that of one log
abbrev pub TextHasOneLog : Type 0
TextHasOneLog =
    (text : List ℕ) (kind other : Kind) (log another : Log) → IsTextOf text kind log →
    IsTextOf text other another → (kind ≡ other) × (log ≡ another)

-- it is refused for one thing
abbrev pub TextHasOneRefusal : Type 0
TextHasOneRefusal =
    (text : List ℕ) (refusal other : LogRefusal) → refusal ≢ NoMemory → other ≢ NoMemory →
    IsRefusedLog text refusal → IsRefusedLog text other → refusal ≡ other

-- and not both
abbrev pub LogIsNotRefused : Type 0
LogIsNotRefused =
    (text : List ℕ) (kind : Kind) (log : Log) (refusal : LogRefusal) → refusal ≢ NoMemory →
    IsTextOf text kind log → ¬ IsRefusedLog text refusal

-- a log has no more steps than its text has bytes
abbrev pub StepsAreFewerThanBytes : Type 0
StepsAreFewerThanBytes =
    (text : List ℕ) (kind : Kind) (log : Log) → IsTextOf text kind log →
    length log.steps ≤ length text

-- nor than the lines of its entries have
abbrev pub StepsAreFewerThanLineBytes : Type 0
StepsAreFewerThanLineBytes =
    (log : Log) → length log.steps ≤ length (flat_map entry_line (entries log))
