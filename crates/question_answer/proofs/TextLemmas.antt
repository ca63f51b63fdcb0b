-- What follows the first line is that of one log, or refused for one thing, and not both: behind the
-- first line of a safety log it is the text of any log.
use Rattle.std.proofs.Common.{◌≡◌, ◌≢◌, ◌⊎◌, inl, inr, ℕ, List, [], ◌∷◌, ◌++◌, Result, Ok, Err, length, refl, sym, ap, ◌∙◌, arith, append_assoc, length-append}
use Rattle.std.specs.List.{flat_map}
use Rattle.std.specs.Prelude.{IfErr, IfOk}
use Rattle.list_base.specs.Lines.{end_line}
use Rattle.refutation_log.specs.declared.refusal.LogRefusal.{LogRefusal}
use Rattle.refutation_log.specs.declared.refusal.LogRefusal.TheVariants.{Form, NoMemory, Number}
use Rattle.refutation_log.specs.declared.refutation.Kind.{Kind}
use Rattle.refutation_log.specs.declared.refutation.Kind.TheVariants.{Safety}
use Rattle.refutation_log.specs.declared.refutation.Log.{Log}
use Rattle.refutation_log.specs.declared.refutation.Removal.{Removal}
use Rattle.refutation_log.specs.declared.refutation.Version.{Version}
use Rattle.refutation_log.specs.declared.refutation.Version.TheVariants.{One}
use Rattle.refutation_log.specs.Entries.{entries}
use Rattle.refutation_log.specs.LogText.{IsTextOf, LogInRange, entry_line, header_line, least_version}
use Rattle.refutation_log.specs.Refusal.{IsRefusedLog}
use Rattle.refutation_log.specs.TextLaws.{LogIsNotRefused, StepsAreFewerThanLineBytes, TextHasOneLog, TextHasOneRefusal}
use Rattle.question_answer.specs.Laws.{LogRestIsNotRefused, QuestionStepsAreFewerThanBytes, RestHasOneLog, RestHasOneRefusal, WrittenIsQuestionLog}
use Rattle.question_answer.specs.QuestionLog.{IsRefusedRest, IsRestOfLog, lines_after_title}

-- behind the first line of a safety log
abbrev pub headed : Version → List ℕ → List ℕ
headed version rest = header_line version Safety ++ rest

-- the rest is the text of that log
as_log : (version : Version) (rest : List ℕ) (log : Log) → IsRestOfLog version rest log → IsTextOf (headed version rest) Safety log
as_log version rest log is = record {
  numbers = is.numbers;
  version = version;
  allowed = is.allowed;
  text = ap (headed version) is.lines ∙ sym (append_assoc (header_line version Safety) (flat_map entry_line (entries log)) end_line);
}

-- the laws
pub one_log : TextHasOneLog → RestHasOneLog
one_log law version rest log another one again =
    (law (headed version rest) Safety Safety log another (as_log version rest log one) (as_log version rest another again)).1

pub one_refusal : TextHasOneRefusal → RestHasOneRefusal
one_refusal law version rest refusal other some any one again = law (headed version rest) refusal other some any one again

pub not_both : LogIsNotRefused → LogRestIsNotRefused
not_both law version rest log refusal some is refused = law (headed version rest) Safety log refusal some (as_log version rest log is) refused

-- each step has a line
pub steps_in_rest : StepsAreFewerThanLineBytes → QuestionStepsAreFewerThanBytes
steps_in_rest fewer version rest log is =
    omega (arith, fewer log, ap (length {A = ℕ}) is.lines, length-append (flat_map entry_line (entries log)) end_line)

-- version 1 is written only if nothing is removed
least_allowed : (removals : List Removal) → least_version removals ≡ One → removals ≡ []
least_allowed [] is = refl
least_allowed (removal ∷ removals) is = absurd (cc)

-- so what is written is a text
pub written_text : WrittenIsQuestionLog
written_text spelling log lacks numbers = record {
  version = least_version log.removals;
  rest = lines_after_title log;
  titled = record { one_line = lacks; whole = refl };
  is_rest = record { numbers = numbers; allowed = least_allowed log.removals; lines = refl };
}

-- a log that was read is that of the rest
pub read_rest : (version : Version) (rest : List ℕ) (r : Result Log LogRefusal) → IfOk r LogInRange → IfOk r (λ log. version ≡ One → log.removals ≡ []) → IfOk r (λ log. rest ≡ flat_map entry_line (entries log) ++ end_line) → IfOk r (IsRestOfLog version rest)
read_rest version rest (Ok log) numbers allowed lines = record { numbers = numbers; allowed = allowed; lines = lines }
read_rest version rest (Err refusal) numbers allowed lines = tt

-- and it is refused as behind the first line of any log
pub refused_rest : (version : Version) (rest : List ℕ) (r : Result Log LogRefusal) → IfErr r (λ refusal. (kind : Kind) → IsRefusedLog (header_line version kind ++ rest) refusal) → IfErr r (IsRefusedRest version rest)
refused_rest version rest (Ok log) refused = tt
refused_rest version rest (Err refusal) refused = refused Safety

module _ (one : RestHasOneLog) (once : RestHasOneRefusal) (exclusive : LogRestIsNotRefused) (version : Version) (rest : List ℕ) where
  -- what is that of a log is read
  pub reads_log : (r : Result Log LogRefusal) → IfOk r (IsRestOfLog version rest) → IfErr r (IsRefusedRest version rest) → (log : Log) → IsRestOfLog version rest log → (r ≡ Ok log) ⊎ (r ≡ Err NoMemory)
  reads_log (Ok read) ok refused log is = inl (ap Ok (one version rest read log ok is))
  reads_log (Err NoMemory) ok refused log is = inr refl
  reads_log (Err (Form n)) ok refused log is = absurd (exclusive version rest log (Form n) (λ e. cc) is refused)
  reads_log (Err (Number n)) ok refused log is = absurd (exclusive version rest log (Number n) (λ e. cc) is refused)

  -- and each refusal is given where it is due
  pub refuses_rest : (r : Result Log LogRefusal) → IfOk r (IsRestOfLog version rest) → IfErr r (IsRefusedRest version rest) → (refusal : LogRefusal) → refusal ≢ NoMemory → IsRefusedRest version rest refusal → (r ≡ Err refusal) ⊎ (r ≡ Err NoMemory)
  refuses_rest (Ok read) ok refused refusal some due = absurd (exclusive version rest read refusal some ok due)
  refuses_rest (Err NoMemory) ok refused refusal some due = inr refl
  refuses_rest (Err (Form n)) ok refused refusal some due = inl (ap Err (once version rest (Form n) refusal (λ e. cc) some refused due))
  refuses_rest (Err (Number n)) ok refused refusal some due = inl (ap Err (once version rest (Number n) refusal (λ e. cc) some refused due))
