-- A text is the spelling of one log, or has one first fault, and not both.
use Rattle.std.proofs.Common.{◌≡◌, ◌≢◌, ℕ, ◌<◌, List, [], ◌∷◌, ◌++◌, length, drop, Result, Ok, Err, refl, sym, ap, subst, ◌∙◌, inl, inr, arith}
use Rattle.std.specs.Prelude.{MatchResult}
use Rattle.std.specs.List.{flat_map}
use Rattle.std.proofs.lemmas.Bool.{cases_order}
use Rattle.std.proofs.lemmas.List.{append_assoc, append-nil, get_or_push, length_push, same_from_push}
use Rattle.std.proofs.lemmas.List.Elements.{recursion_from_All}
use Rattle.refutation_log.specs.declared.refusal.LogRefusal.{LogRefusal}
use Rattle.refutation_log.specs.declared.refusal.LogRefusal.TheVariants.{Form, Number, NoMemory}
use Rattle.refutation_log.specs.declared.refutation.Kind.{Kind}
use Rattle.refutation_log.specs.declared.refutation.Version.{Version}
use Rattle.refutation_log.specs.declared.refutation.Log.{Log}
use Rattle.refutation_log.specs.LogText.{IsTextOf, header_line, entry_line, versioned_text}
use Rattle.refutation_log.specs.NumberRange.{EntryInRange}
use Rattle.list_base.specs.Lines.{end_line, Line, lines_of, HasNoEnd}
use Rattle.refutation_log.specs.Entries.{entries}
use Rattle.refutation_log.proofs.LogLemmas.{same_from_entries, log_stands}
use Rattle.refutation_log.specs.Refusal.{HasForm, HasBadNumber, IsMisformed, IsMisnumbered, IsFirstBad, IsRefusedLog, Answers}
use Rattle.refutation_log.proofs.Spellings.{same_from_entry_lines, same_from_header_line}
use Rattle.refutation_log.proofs.RightLines.{front_lines, lines-front, both_right, whole_right}

-- ---- two cuts of one list

-- the longer front goes on with the rest of the shorter one
overlap : (a b c d : List Line) → a ++ b ≡ c ++ d → length a < length c → (x : Line) × (xs : List Line) × (ys : List Line) × (b ≡ x ∷ xs) × (c ≡ a ++ x ∷ ys)
overlap a b [] d e short = absurd (omega arith)
overlap [] b (y ∷ c) d e short = (y, c ++ d, c, e, refl)
overlap (x ∷ a) b (y ∷ c) d e short =
    let rest = overlap a b c d (ap (drop 1) e) (omega arith) in
    let tails : c ≡ a ++ rest.0 ∷ rest.2 = rest.4 in
    let heads : y ≡ x = cc in
    (rest.0, rest.1, rest.2, rest.3, cc)

same_cut : (a b c d : List Line) → a ++ b ≡ c ++ d → length a ≡ length c → (a ≡ c) × (b ≡ d)
same_cut [] b [] d e same = (refl, e)
same_cut [] b (y ∷ c) d e same = absurd (omega arith)
same_cut (x ∷ a) b [] d e same = absurd (omega arith)
same_cut (x ∷ a) b (y ∷ c) d e same =
    let rest = same_cut a b c d (ap (drop 1) e) (omega arith) in
    let heads : x ≡ y = cc in
    let tails : a ≡ c = rest.0 in
    (cc, rest.1)

-- ---- one fault

-- a line that is bad in this way is not right
abbrev Excludes : (List Line → List Line → Type 0) → Type 0
Excludes IsBad = (before after : List Line) (line : Line) → IsBad before (line ∷ after) → HasForm before line → (HasBadNumber line → ⊥) → ⊥

misformed_excludes : Excludes IsMisformed
misformed_excludes = λ before after line bad form good. bad form

misnumbered_excludes : Excludes IsMisnumbered
misnumbered_excludes = λ before after line bad form good. good bad.1

none_before : (A B : List Line → List Line → Type 0) (text : List ℕ) (m n : ℕ) → Excludes A → IsFirstBad A text m → IsFirstBad B text n → m < n → ⊥
none_before A B text m n excludes first other short =
    let next = overlap first.before first.after other.before other.after (sym first.lines ∙ other.lines) (omega (arith, first.number, other.number)) in
    let right = other.right first.before next.2 next.0 next.4 in
    excludes first.before next.1 next.0 (subst (A first.before) next.3 first.bad) right.0 right.1

one_line : (A B : List Line → List Line → Type 0) (text : List ℕ) (m n : ℕ) → Excludes A → Excludes B → IsFirstBad A text m → IsFirstBad B text n → m ≡ n
one_line A B text m n a_excludes b_excludes first other =
    elim (cases_order m n) [
      | inl same ↦ same
      | inr differ ↦ elim differ [
        | inl less ↦ absurd (none_before A B text m n a_excludes first other less)
        | inr more ↦ absurd (none_before B A text n m b_excludes other first more)
      ]
    ]

clash : (before after : List Line) → IsMisformed before after → IsMisnumbered before after → ⊥
clash before [] form number = number
clash before (line ∷ after) form number = form number.0

one_way : (text : List ℕ) (m n : ℕ) → IsFirstBad IsMisformed text m → IsFirstBad IsMisnumbered text n → ⊥
one_way text m n form number =
    let one = one_line IsMisformed IsMisnumbered text m n misformed_excludes misnumbered_excludes form number in
    let same = same_cut form.before form.after number.before number.after (sym form.lines ∙ number.lines) (omega (arith, form.number, number.number)) in
    let moved : IsMisformed number.before number.after = subst (IsMisformed number.before) same.1 (subst (λ (ls : List Line). IsMisformed ls form.after) same.0 form.bad) in
    clash number.before number.after moved number.bad

pub one_refusal : (text : List ℕ) (refusal other : LogRefusal) → IsRefusedLog text refusal → IsRefusedLog text other → refusal ≢ NoMemory → other ≢ NoMemory → refusal ≡ other
one_refusal text (Form m) (Form n) first second some any = ap Form (one_line IsMisformed IsMisformed text m n misformed_excludes misformed_excludes first second)
one_refusal text (Form m) (Number n) first second some any = absurd (one_way text m n first second)
one_refusal text (Number m) (Form n) first second some any = absurd (one_way text n m second first)
one_refusal text (Number m) (Number n) first second some any = ap Number (one_line IsMisnumbered IsMisnumbered text m n misnumbered_excludes misnumbered_excludes first second)
one_refusal text NoMemory other first second some any = absurd (some refl)
one_refusal text refusal NoMemory first second some any = absurd (any refl)

-- ---- no fault in the text of a log

lines-log : (version : Version) (kind : Kind) (log : Log) → lines_of (versioned_text version kind log) ≡ front_lines version kind (entries log) ++ end_line ∷ []
lines-log version kind log = ap lines_of (append_assoc (header_line version kind) (flat_map entry_line (entries log)) end_line) ∙ lines-front version kind (entries log) end_line

has_end : (before : List Line) → HasNoEnd (before ++ end_line ∷ []) → ⊥
has_end before unended =
    let last : end_line ≢ end_line = subst (λ (line : Line). line ≢ end_line) (get_or_push before end_line end_line (length before) refl) (unended (length before) end_line (omega (arith, length_push before end_line))) in
    last refl

-- what is bad beyond all lines would be a missing end
abbrev WantsEnd : (List Line → List Line → Type 0) → Type 0
WantsEnd IsBad = (before : List Line) → IsBad before [] → HasNoEnd before

all_right : (IsBad : List Line → List Line → Type 0) → Excludes IsBad → WantsEnd IsBad → (text : List ℕ) (kind : Kind) (log : Log) → IsTextOf text kind log → (n : ℕ) → IsFirstBad IsBad text n → ⊥
all_right IsBad excludes wants text kind log is n first = go first.before first.after (sym (ap lines_of is.text ∙ lines-log is.version kind log) ∙ first.lines) first.bad
  where
    go : (before after : List Line) → front_lines is.version kind (entries log) ++ end_line ∷ [] ≡ before ++ after → IsBad before after → ⊥
    go before [] e bad = has_end (front_lines is.version kind (entries log)) (subst HasNoEnd (sym (append-nil before) ∙ sym e) (wants before bad))
    go before (line ∷ after) e bad =
        let good = both_right is.version (entries log) (log_stands is.version log is.allowed) (recursion_from_All EntryInRange (entries log) is.numbers) in
        let right = whole_right is.version kind (entries log) good before after line e in
        excludes before after line bad right.0 right.1

pub no_fault : (text : List ℕ) (kind : Kind) (log : Log) (refusal : LogRefusal) → IsTextOf text kind log → refusal ≢ NoMemory → IsRefusedLog text refusal → ⊥
no_fault text kind log (Form n) is some first = all_right IsMisformed misformed_excludes (λ before bad. bad) text kind log is n first
no_fault text kind log (Number n) is some first = all_right IsMisnumbered misnumbered_excludes (λ before bad. absurd bad) text kind log is n first
no_fault text kind log NoMemory is some first = some refl

-- ---- one log

pub same_logs : (text : List ℕ) (kind other : Kind) (log another : Log) → IsTextOf text kind log → IsTextOf text other another → (kind ≡ other) × (log ≡ another)
same_logs text kind other log another is again =
    let lines = sym (lines-log is.version kind log) ∙ ap lines_of (sym is.text ∙ again.text) ∙ lines-log again.version other another in
    let front : List Line = front_lines is.version kind (entries log) in
    let next : List Line = front_lines again.version other (entries another) in
    let fronts : front ≡ next = (same_from_push front next end_line end_line lines).0 in
    let headers : header_line is.version kind ≡ header_line again.version other = cc in
    ((same_from_header_line is.version again.version kind other headers).1, same_from_entries log another (same_from_entry_lines (entries log) (entries another) (ap (drop 1) fronts)))

-- ---- one answer

pair_of : (read : Kind × Log) (kind : Kind) (log : Log) → read.0 ≡ kind → read.1 ≡ log → read ≡ (kind, log)
pair_of read kind log kinds logs = ap (λ (k : Kind). (k, read.1)) kinds ∙ ap (λ (l : Log). (kind, l)) logs

-- what the answer says of the text
abbrev Holds : List ℕ → Result (Kind × Log) LogRefusal → Type 0
Holds text answer = MatchResult answer (λ read. IsTextOf text read.0 read.1) (IsRefusedLog text)

pub reads : (text : List ℕ) (r : Result (Kind × Log) LogRefusal) → Holds text r → (kind : Kind) (log : Log) → IsTextOf text kind log → Answers r (Ok (kind, log))
reads text (Ok read) holds kind log is = let same = same_logs text read.0 kind read.1 log holds is in inl (ap Ok (pair_of read kind log same.0 same.1))
reads text (Err NoMemory) holds kind log is = inr refl
reads text (Err (Form n)) holds kind log is = absurd (no_fault text kind log (Form n) is (λ e. cc) holds)
reads text (Err (Number n)) holds kind log is = absurd (no_fault text kind log (Number n) is (λ e. cc) holds)

pub refuses : (text : List ℕ) (r : Result (Kind × Log) LogRefusal) → Holds text r → (refusal : LogRefusal) → refusal ≢ NoMemory → IsRefusedLog text refusal → Answers r (Err refusal)
refuses text (Ok read) holds refusal some first = absurd (no_fault text read.0 read.1 refusal holds some first)
refuses text (Err NoMemory) holds refusal some first = inr refl
refuses text (Err (Form n)) holds refusal some first = inl (ap Err (one_refusal text (Form n) refusal holds first (λ e. cc) some))
refuses text (Err (Number n)) holds refusal some first = inl (ap Err (one_refusal text (Number n) refusal holds first (λ e. cc) some))
