-- A text is that of one log on one message, or refused for one thing, and not both: behind its first
-- line it is the text of any log.
use Rattle.std.proofs.Common.{◌≡◌, ◌≢◌, ◌⊎◌, inl, inr, ℕ, ◌<◌, List, [], ◌∷◌, ◌++◌, drop, get_or, length, refl, sym, ap, ◌∙◌, subst, arith, append_assoc, length-append}
use Rattle.std.specs.List.{flat_map, slice_split}
use Rattle.std.specs.Prelude.{◌==◌}
use Rattle.std.proofs.lemmas.List.{append_cancel_left}
use Rattle.std.proofs.lemmas.List.Elements.{All-contains, Contains-append_right}
use Rattle.bspl_types.specs.declared.expanded.Expanded.{Expanded}
use Rattle.bspl_types.specs.Expansion.{message_name}
use Rattle.list_base.proofs.Members.{here}
use Rattle.list_base.proofs.Separators.{Lacks, parts_at}
use Rattle.list_base.specs.Lines.{end_line}
use Rattle.refutation_log.specs.declared.refusal.LogRefusal.{LogRefusal}
use Rattle.refutation_log.specs.declared.refusal.LogRefusal.TheVariants.{Form, NoMemory, Number}
use Rattle.refutation_log.specs.declared.refutation.Kind.TheVariants.{Safety}
use Rattle.refutation_log.specs.declared.refutation.Log.{Log}
use Rattle.refutation_log.specs.declared.refutation.Removal.{Removal}
use Rattle.refutation_log.specs.declared.refutation.Version.{Version}
use Rattle.refutation_log.specs.declared.refutation.Version.TheVariants.{One, Two}
use Rattle.refutation_log.specs.Entries.{entries}
use Rattle.refutation_log.specs.LogText.{IsTextOf, LogInRange, entry_line, header_line, least_version}
use Rattle.refutation_log.specs.Refusal.{IsRefusedLog}
use Rattle.refutation_log.specs.TextLaws.{LogIsNotRefused, StepsAreFewerThanLineBytes, TextHasOneLog, TextHasOneRefusal}
use Rattle.bspl_types.specs.NamedParts.{OneMessageOfAName}
use Rattle.run_text.specs.Names.{NamesAreFields}
use Rattle.enactability.specs.DeadText.{IsDeadText, dead_text, dead_title}
use Rattle.enactability.specs.Laws.{DeadLogIsNotRefused, DeadStepsAreFewerThanBytes, TextHasOneDeadLog, TextHasOneDeadRefusal, WrittenIsDeadText}
use Rattle.enactability.specs.Refusal.{HasTitle, IsRefusedAfter, IsRefusedDead}
use Rattle.enactability.specs.inner.Title.{IsTitle}
use Rattle.enactability.proofs.TitleLemmas.{same_line, title_body, title_is, title_lacks}

-- the lines of the log after the first one
abbrev pub body_of : Log → List ℕ
body_of log = flat_map entry_line (entries log) ++ end_line

-- a first line that lacks an LF ends at the first LF
same_cut : (line rest other more : List ℕ) → Lacks 10 line → Lacks 10 other → line ++ 10 ∷ rest ≡ other ++ 10 ∷ more → (line ≡ other) × (rest ≡ more)
same_cut line rest other more lacks also same =
    let parts = sym (parts_at 10 line rest lacks) ∙ ap (slice_split (λ byte. byte == 10)) same ∙ parts_at 10 other more also in
    let lines : line ≡ other = ap (λ (ps : List (List ℕ)). get_or ps 0 []) parts in
    (lines, ap (drop 1) (append_cancel_left other (10 ∷ rest) (10 ∷ more) (ap (λ (l : List ℕ). l ++ 10 ∷ rest) (sym lines) ∙ same)))

-- the first line, its LF and the rest
title_then : (x : Expanded) (version : Version) (m : ℕ) (rest : List ℕ) → dead_title x version m ++ rest ≡ title_body x version m ++ 10 ∷ rest
title_then x version m rest = ap (λ (title : List ℕ). title ++ rest) (title_is x version m) ∙ append_assoc (title_body x version m) (10 ∷ []) rest

-- the text of a log has a title
abbrev has_title : (x : Expanded) (text : List ℕ) (m : ℕ) (log : Log) → IsDeadText x text m log → HasTitle x text
has_title x text m log is = record {
  version = is.version;
  message = m;
  known = is.known;
  rest = body_of log;
  text = is.text ∙ append_assoc (dead_title x is.version m) (flat_map entry_line (entries log)) end_line;
}

-- behind the first line of a safety log the body is the text of that log
as_log : (x : Expanded) (text : List ℕ) (m : ℕ) (log : Log) (is : IsDeadText x text m log) → IsTextOf (header_line is.version Safety ++ body_of log) Safety log
as_log x text m log is = record {
  numbers = is.numbers;
  version = is.version;
  allowed = is.allowed;
  text = sym (append_assoc (header_line is.version Safety) (flat_map entry_line (entries log)) end_line);
}

module _ (fields : NamesAreFields) (x : Expanded) (text : List ℕ) where
  -- a text is titled once
  titled_once : (one again : HasTitle x text) → (one.version ≡ again.version) × (message_name x one.message ≡ message_name x again.message) × (one.rest ≡ again.rest)
  titled_once one again =
      let same = sym (title_then x one.version one.message one.rest) ∙ sym one.text ∙ again.text ∙ title_then x again.version again.message again.rest in
      let (lines, rests) = same_cut (title_body x one.version one.message) one.rest (title_body x again.version again.message) again.rest (title_lacks fields x one.version one.message one.known) (title_lacks fields x again.version again.message again.known) same in
      let (versions, names) = same_line one.version again.version (message_name x one.message) (message_name x again.message) lines in
      (versions, names, rests)

  -- and read behind one header
  same_headed : (one again : HasTitle x text) → header_line one.version Safety ++ one.rest ≡ header_line again.version Safety ++ again.rest
  same_headed one again =
      let (versions, names, rests) = titled_once one again in
      ap (λ (v : Version). header_line v Safety ++ one.rest) versions ∙ ap (λ (rest : List ℕ). header_line again.version Safety ++ rest) rests

  -- the first line before the first LF
  pub line_titled : (line rest : List ℕ) (title : HasTitle x text) → Lacks 10 line → text ≡ line ++ 10 ∷ rest → IsTitle x line title.version title.message
  line_titled line rest title lacks whole =
      let same = sym whole ∙ title.text ∙ title_then x title.version title.message title.rest in
      record { known = title.known; body = (same_cut line rest (title_body x title.version title.message) title.rest lacks (title_lacks fields x title.version title.message title.known) same).0 }

-- one log
pub one_text : NamesAreFields → OneMessageOfAName → TextHasOneLog → TextHasOneDeadLog
one_text fields named once x text m n log another one again =
    let first = has_title x text m log one in
    let second = has_title x text n another again in
    let moved = subst (λ (bytes : List ℕ). IsTextOf bytes Safety another) (sym (same_headed fields x text first second)) (as_log x text n another again) in (
      named x (message_name x n) m n (record { known = one.known; named = (titled_once fields x text first second).1 }) (record { known = again.known; named = refl }),
      (once (header_line one.version Safety ++ body_of log) Safety Safety log another (as_log x text m log one) moved).1,
    )

-- a refusal: there is no title, or what follows is refused
refused_cases : (x : Expanded) (text : List ℕ) (refusal : LogRefusal) → refusal ≢ NoMemory → IsRefusedDead x text refusal → ((¬ HasTitle x text) × (refusal ≡ Form 1)) ⊎ IsRefusedAfter x text refusal
refused_cases x text (Form line) some (inl none) = inl (none.0, ap Form none.1)
refused_cases x text (Form line) some (inr after) = inr after
refused_cases x text (Number line) some after = inr after
refused_cases x text NoMemory some none = absurd (some refl)

-- not both
pub no_fault : NamesAreFields → LogIsNotRefused → DeadLogIsNotRefused
no_fault fields exclusive x text m log refusal some is refused = elim (refused_cases x text refusal some refused) [
  | inl none ↦ none.0 (has_title x text m log is)
  | inr after ↦
      exclusive (header_line is.version Safety ++ body_of log) Safety log refusal some (as_log x text m log is)
      (subst (λ (bytes : List ℕ). IsRefusedLog bytes refusal) (same_headed fields x text after.title (has_title x text m log is)) after.refused)
]

-- one refusal
pub one_fault : NamesAreFields → TextHasOneRefusal → TextHasOneDeadRefusal
one_fault fields once x text refusal other some any first second = elim (refused_cases x text refusal some first) [
  | inl none ↦ elim (refused_cases x text other any second) [
    | inl neither ↦ none.1 ∙ sym neither.1
    | inr after ↦ absurd (none.0 after.title)
  ]
  | inr after ↦ elim (refused_cases x text other any second) [
    | inl none ↦ absurd (none.0 after.title)
    | inr again ↦
        once (header_line after.title.version Safety ++ after.title.rest) refusal other some any after.refused
        (subst (λ (bytes : List ℕ). IsRefusedLog bytes other) (same_headed fields x text again.title after.title) again.refused)
  ]
]

-- a text without an LF has no title
pub no_line : (x : Expanded) (text : List ℕ) → Lacks 10 text → ¬ HasTitle x text
no_line x text lacks title =
    let body = title_body x title.version title.message in
    let whole = title.text ∙ title_then x title.version title.message title.rest in
    All-contains (λ byte. byte ≢ 10) (body ++ 10 ∷ title.rest) 10 (subst (Lacks 10) whole lacks) (Contains-append_right body (10 ∷ title.rest) 10 (here 10 title.rest)) refl

-- nor has one whose line before the first LF is no first line
pub no_title : NamesAreFields → (x : Expanded) (text line rest : List ℕ) → Lacks 10 line → text ≡ line ++ 10 ∷ rest → ((version : Version) (m : ℕ) → ¬ IsTitle x line version m) → ¬ HasTitle x text
no_title fields x text line rest lacks whole none title = none title.version title.message (line_titled fields x text line rest title lacks whole)

-- one whose line is a first line has a title
pub title_of : (x : Expanded) (text line rest : List ℕ) (version : Version) (m : ℕ) → text ≡ line ++ 10 ∷ rest → IsTitle x line version m → text ≡ dead_title x version m ++ rest
title_of x text line rest version m whole is = whole ∙ ap (λ (l : List ℕ). l ++ 10 ∷ rest) is.body ∙ sym (title_then x version m rest)

-- with the lines of a log it is a text of it
pub text_of : (x : Expanded) (text line rest : List ℕ) (version : Version) (m : ℕ) (log : Log) → text ≡ line ++ 10 ∷ rest → IsTitle x line version m → LogInRange log → (version ≡ One → log.removals ≡ []) → rest ≡ body_of log → IsDeadText x text m log
text_of x text line rest version m log whole is numbers allowed body = record {
  known = is.known;
  numbers = numbers;
  version = version;
  allowed = allowed;
  text = title_of x text line rest version m whole is ∙ ap (λ (r : List ℕ). dead_title x version m ++ r) body
      ∙ sym (append_assoc (dead_title x version m) (flat_map entry_line (entries log)) end_line);
}

-- and what follows it may be refused
pub after_of : (x : Expanded) (text line rest : List ℕ) (version : Version) (m : ℕ) (refusal : LogRefusal) → text ≡ line ++ 10 ∷ rest → IsTitle x line version m → IsRefusedLog (header_line version Safety ++ rest) refusal → IsRefusedDead x text refusal
after_of x text line rest version m refusal whole is refused = by_refusal refusal (record {
  title = record { version = version; message = m; known = is.known; rest = rest; text = title_of x text line rest version m whole is };
  refused = refused;
})
  where
    by_refusal : (r : LogRefusal) → IsRefusedAfter x text r → IsRefusedDead x text r
    by_refusal (Form line) after = inr after
    by_refusal (Number line) after = after
    by_refusal NoMemory after = tt

-- version 1 is written only if nothing is removed
least_allowed : (removals : List Removal) → least_version removals ≡ One → removals ≡ []
least_allowed [] is = refl
least_allowed (removal ∷ removals) is = absurd (cc)

-- so what is written is a text
pub written_text : WrittenIsDeadText
written_text x m log known numbers = record { known = known; numbers = numbers; version = least_version log.removals; allowed = least_allowed log.removals; text = refl }

-- its first line is what comes before the name, the name and an LF
pub all_written : (x : Expanded) (m : ℕ) (log : Log) → ((title_body x (least_version log.removals) m ++ 10 ∷ []) ++ flat_map entry_line (entries log)) ++ end_line ≡ dead_text x m log
all_written x m log =
    let lines = flat_map entry_line (entries log) in
    ap (λ (title : List ℕ). (title ++ lines) ++ end_line) (sym (title_is x (least_version log.removals) m))

-- the text has the lines of the log's entries
pub steps_in_text : StepsAreFewerThanLineBytes → DeadStepsAreFewerThanBytes
steps_in_text fewer x text m log is =
    let title = dead_title x is.version m in
    let lines = flat_map entry_line (entries log) in
    omega (arith, fewer log, ap (length {A = ℕ}) is.text, length-append (title ++ lines) end_line, length-append title lines)
