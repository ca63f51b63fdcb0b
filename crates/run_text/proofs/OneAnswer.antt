-- A text is that of one run, or has one first bad line, and not both.
use Rattle.std.proofs.Common.{◌≡◌, ◌≢◌, ℕ, ◌<◌, List, [], ◌∷◌, ◌++◌, length, drop, map, Result, Ok, Err, refl, sym, ap, subst, ◌∙◌, inl, inr, arith, codes}
use Rattle.std.specs.Prelude.{MatchResult}
use Rattle.std.specs.List.{flat_map}
use Rattle.std.proofs.lemmas.Bool.{cases_order}
use Rattle.std.proofs.lemmas.List.{append_assoc, append-nil, append_cancel_right, get_or_push, length_push, same_from_push}
use Rattle.bspl_types.specs.declared.event.Event.{Event}
use Rattle.bspl_types.specs.declared.expanded.Expanded.{Expanded}
use Rattle.bspl_types.specs.Admission.{IsAdmitted}
use Rattle.bspl_types.specs.ValueSpelling.{ValuesAreSpelledOnce}
use Rattle.list_base.specs.Lines.{Line, lines_of, HasNoEnd, end_line}
use Rattle.run_text.specs.declared.refusal.RunRefusal.{RunRefusal}
use Rattle.run_text.specs.declared.refusal.RunRefusal.TheVariants.{Form, NoMemory}
use Rattle.run_text.specs.RunText.{IsRunText, event_line, head_line, run_text}
use Rattle.run_text.specs.Refusal.{AnswersRun, IsFirstOutOfForm, IsOutOfForm, IsRefusedRun}
use Rattle.run_text.specs.inner.LineFields.{event_body}
use Rattle.run_text.proofs.EventLemmas.{same_event}
use Rattle.run_text.proofs.RightLines.{AreFitting, fitting_run, front_lines, lines-front, whole_right}

-- ---- one bad line

-- of two cuts of one list, the longer front goes on with the rest of the shorter one
overlap : (a b c d : List Line) → a ++ b ≡ c ++ d → length a < length c → (x : Line) × (xs : List Line) × (ys : List Line) × (b ≡ x ∷ xs) × (c ≡ a ++ x ∷ ys)
overlap a b [] d e short = absurd (omega arith)
overlap [] b (y ∷ c) d e short = (y, c ++ d, c, e, refl)
overlap (x ∷ a) b (y ∷ c) d e short =
    let rest = overlap a b c d (ap (drop 1) e) (omega arith) in
    let tails : c ≡ a ++ rest.0 ∷ rest.2 = rest.4 in
    let heads : y ≡ x = cc in
    (rest.0, rest.1, rest.2, rest.3, cc)

-- no bad line comes before the first
none_before : (x : Expanded) (text : List ℕ) (m n : ℕ) → IsFirstOutOfForm x text m → IsFirstOutOfForm x text n → m < n → ⊥
none_before x text m n first other short =
    let next = overlap first.before first.after other.before other.after (sym first.lines ∙ other.lines) (omega (arith, first.number, other.number)) in
    let right = other.right first.before next.2 next.0 next.4 in
    (subst (IsOutOfForm x first.before) next.3 first.bad) right

-- a text has one first bad line
one_line : (x : Expanded) (text : List ℕ) (m n : ℕ) → IsFirstOutOfForm x text m → IsFirstOutOfForm x text n → m ≡ n
one_line x text m n first other =
    elim (cases_order m n) [
      | inl same ↦ same
      | inr (inl less) ↦ absurd (none_before x text m n first other less)
      | inr (inr more) ↦ absurd (none_before x text n m other first more)
    ]

-- so it has one refusal
pub one_refusal : (x : Expanded) (text : List ℕ) (refusal other : RunRefusal) → refusal ≢ NoMemory → other ≢ NoMemory → IsRefusedRun x text refusal → IsRefusedRun x text other → refusal ≡ other
one_refusal x text (Form m) (Form n) some any first second = ap Form (one_line x text m n first second)
one_refusal x text NoMemory other some any first second = absurd (some refl)
one_refusal x text (Form m) NoMemory some any first second = absurd (any refl)

-- ---- no bad line in the text of a run

-- the lines of the text of a run
lines-run : (x : Expanded) (run : List Event) → AreFitting x run → lines_of (run_text x run) ≡ front_lines x run ++ end_line ∷ []
lines-run x run fitting = ap lines_of (append_assoc head_line (flat_map (event_line x) run) end_line) ∙ lines-front x run end_line fitting

-- one of them is `end`
has_end : (before : List Line) → HasNoEnd (before ++ end_line ∷ []) → ⊥
has_end before unended =
    let last : end_line ≢ end_line = subst (λ (line : Line). line ≢ end_line) (get_or_push before end_line end_line (length before) refl) (unended (length before) end_line (omega (arith, length_push before end_line))) in
    last refl

-- so none of them is bad
all_right : (x : Expanded) (run : List Event) → AreFitting x run → (before after : List Line) → front_lines x run ++ end_line ∷ [] ≡ before ++ after → IsOutOfForm x before after → ⊥
all_right x run fitting before [] e bad = has_end (front_lines x run) (subst HasNoEnd (sym (append-nil before) ∙ sym e) bad)
all_right x run fitting before (line ∷ after) e bad = bad (whole_right x run fitting before after line e)

-- the text of a run is not refused
pub not_refused : (x : Expanded) (text : List ℕ) (run : List Event) (refusal : RunRefusal) → refusal ≢ NoMemory → IsRunText x text run → IsRefusedRun x text refusal → ⊥
not_refused x text run (Form n) some is first =
    let fitting = fitting_run x run is.fits is.values in
    all_right x run fitting first.before first.after (sym (ap lines_of is.text ∙ lines-run x run fitting) ∙ first.lines) first.bad
not_refused x text run NoMemory some is first = some refl

-- ---- one run

-- events of the same lines are the same
same_events : (x : Expanded) (run other : List Event) → ValuesAreSpelledOnce → IsAdmitted x → AreFitting x run → AreFitting x other → map (event_line x) run ≡ map (event_line x) other → run ≡ other
same_events x [] [] once admitted fitting also e = refl
same_events x [] (event ∷ other) once admitted fitting also e = absurd (cc)
same_events x (event ∷ run) [] once admitted fitting also e = absurd (cc)
same_events x (event ∷ run) (first ∷ other) once admitted fitting also e =
    let lines : event_line x event ≡ event_line x first = cc in
    let one : event ≡ first = same_event x event first once admitted fitting.0 also.0 (append_cancel_right (event_body x event) (event_body x first) (codes "\n") lines) in
    let rest : run ≡ other = same_events x run other once admitted fitting.1 also.1 (ap (drop 1) e) in
    cc

-- a text is that of one run
pub one_run : (x : Expanded) (text : List ℕ) (run other : List Event) → ValuesAreSpelledOnce → IsAdmitted x → IsRunText x text run → IsRunText x text other → run ≡ other
one_run x text run other once admitted is also =
    let fitting = fitting_run x run is.fits is.values in
    let another = fitting_run x other also.fits also.values in
    let lines = sym (lines-run x run fitting) ∙ ap lines_of (sym is.text ∙ also.text) ∙ lines-run x other another in
    let fronts : front_lines x run ≡ front_lines x other = (same_from_push (front_lines x run) (front_lines x other) end_line end_line lines).0 in
    same_events x run other once admitted fitting another (ap (drop 1) fronts)

-- ---- one answer

-- what the answer says of the text
abbrev Holds : Expanded → List ℕ → Result (List Event) RunRefusal → Type 0
Holds x text answer = MatchResult answer (IsRunText x text) (IsRefusedRun x text)

-- the text of a run is read, memory aside
pub reads : (x : Expanded) (text : List ℕ) (r : Result (List Event) RunRefusal) → ValuesAreSpelledOnce → IsAdmitted x → Holds x text r → (run : List Event) → IsRunText x text run → AnswersRun r (Ok run)
reads x text (Ok read) once admitted holds run is = inl (ap Ok (one_run x text read run once admitted holds is))
reads x text (Err NoMemory) once admitted holds run is = inr refl
reads x text (Err (Form n)) once admitted holds run is = absurd (not_refused x text run (Form n) (λ e. cc) is holds)

-- each refusal is given where it is due, memory aside
pub refuses : (x : Expanded) (text : List ℕ) (r : Result (List Event) RunRefusal) → Holds x text r → (refusal : RunRefusal) → refusal ≢ NoMemory → IsRefusedRun x text refusal → AnswersRun r (Err refusal)
refuses x text (Ok read) holds refusal some first = absurd (not_refused x text read refusal some holds first)
refuses x text (Err NoMemory) holds refusal some first = inr refl
refuses x text (Err (Form n)) holds refusal some first = inl (ap Err (one_refusal x text (Form n) refusal (λ e. cc) some holds first))
