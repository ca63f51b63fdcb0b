-- The text of a log on a question: as that of any log, but for the first line, which has the
-- question as it is spelled.
use Rattle.std.specs.Prelude.{◌≡◌, ◌≢◌, ℕ, All, List, [], ◌∷◌, ◌++◌, codes}
use Rattle.std.specs.List.{flat_map}
use Rattle.list_base.specs.Lines.{end_line, line_of}
use Rattle.refutation_log.specs.declared.refusal.LogRefusal.{LogRefusal}
use Rattle.refutation_log.specs.declared.refutation.Kind.TheVariants.{Safety}
use Rattle.refutation_log.specs.declared.refutation.Log.{Log}
use Rattle.refutation_log.specs.declared.refutation.Version.{Version}
use Rattle.refutation_log.specs.declared.refutation.Version.TheVariants.{One}
use Rattle.refutation_log.specs.Entries.{entries}
use Rattle.refutation_log.specs.LogText.{LogInRange, entry_line, header_line, least_version, version_name}
use Rattle.refutation_log.specs.Refusal.{IsRefusedLog}

-- the first line
abbrev pub question_title : Version → List ℕ → List ℕ
question_title version spelling =
    line_of (codes "log" ∷ version_name version ∷ codes "ask" ∷ spelling ∷ [])

-- the lines after it
abbrev pub lines_after_title : Log → List ℕ
lines_after_title log = flat_map entry_line (entries log) ++ end_line

-- the text that is written: of version 1 exactly if nothing is removed
abbrev pub question_log_text : List ℕ → Log → List ℕ
question_log_text spelling log =
    question_title (least_version log.removals) spelling ++ lines_after_title log

-- the bytes are such a first line, on a question that is spelled in one line, and the rest
pub record IsTitled (bytes : List ℕ) (version : Version) (spelling rest : List ℕ) : Type 0 where
  pub one_line : All (λ byte. byte ≢ 10) spelling
  pub whole : bytes ≡ question_title version spelling ++ rest

-- the rest is that of a text of the log; in version 1 nothing is removed
pub record IsRestOfLog (version : Version) (rest : List ℕ) (log : Log) : Type 0 where
  pub numbers : LogInRange log
  pub allowed : version ≡ One → log.removals ≡ []
  pub lines : rest ≡ lines_after_title log

-- it is refused as after the first line of a log for safety
abbrev pub IsRefusedRest : Version → List ℕ → LogRefusal → Type 0
IsRefusedRest version rest refusal = IsRefusedLog (header_line version Safety ++ rest) refusal

-- the bytes are a text of the log on the question
pub record IsQuestionLogText (bytes spelling : List ℕ) (log : Log) : Type 0 where
  pub version : Version
  pub rest : List ℕ
  pub titled : IsTitled bytes version spelling rest
  pub is_rest : IsRestOfLog version rest log
