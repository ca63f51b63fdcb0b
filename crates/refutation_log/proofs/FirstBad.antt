-- The first bad line of a text, from what is read of its next line.
use Rattle.std.proofs.Common.{◌≡◌, ◌≢◌, ℕ, ◌+◌, ◌≤◌, List, [], ◌∷◌, ◌++◌, length, map, All, Ok, Err, codes, refl, sym, ap, subst, ◌∙◌, inl, inr, eqb, arith}
use Rattle.std.specs.List.{flat_map, join_with_byte, onto_first, AllByRecursion}
use Rattle.std.proofs.lemmas.Bool.{cond_both}
use Rattle.std.proofs.lemmas.List.{append_assoc, append-nil, append_cancel_right, get_or_push, length_push, length-map, length-append}
use Rattle.std.proofs.lemmas.List.Elements.{All-nil, All-cons, All-push, recursion_from_All}
use Rattle.std.proofs.lemmas.Grind.{flat_map-append}
use Rattle.refutation_log.specs.declared.line_error.LineError.{LineError}
use Rattle.refutation_log.specs.declared.line_error.LineError.TheVariants as errors
use Rattle.refutation_log.specs.declared.refusal.LogRefusal.TheVariants as refusals
use Rattle.refutation_log.specs.declared.refutation.Kind.{Kind}
use Rattle.refutation_log.specs.declared.refutation.Entry.{Entry}
use Rattle.refutation_log.specs.declared.refutation.Version.{Version}
use Rattle.refutation_log.specs.declared.body.BodyLine.{BodyLine}
use Rattle.refutation_log.specs.declared.body.BodyLine.TheVariants as body
use Rattle.refutation_log.specs.LogText.{version_name, kind_name, entry_line, header_line}
use Rattle.refutation_log.specs.NumberRange.{EntryInRange}
use Rattle.list_base.specs.Lines.{end_line, Line, lines_of, HasNoEnd}
use Rattle.refutation_log.specs.LineParts.{IsReadingAmong, EntryStands, LineStands, body_of, LineInRange, refusal_of_line}
use Rattle.refutation_log.specs.Refusal.{HasForm, AreRight, IsMisformed, IsMisnumbered, IsFirstBad, IsRefusedLog}
use Rattle.list_base.proofs.Separators.{Lacks, lines-then, lines-open}
use Rattle.refutation_log.proofs.Fields.{entry_body}
use Rattle.refutation_log.proofs.Spellings.{header_no_end}
use Rattle.refutation_log.proofs.RightLines.{IsRight, front_lines, lines-front, both_right, entries_no_end, may_stand, stands_there, front_right, whole_right}

-- what was read of the text is entries in range, and this is left from the line at the number on
pub record EntriesRead (version : Version) (text rest : List ℕ) (log : List Entry) (number : ℕ) : Type 0 where
  pub whole : text ≡ flat_map entry_line log ++ rest
  pub good : All EntryInRange log
  pub stand : All (EntryStands version) log
  pub place_is : number ≡ length log + 2
  pub room : length log + length rest ≤ length text

pub no_entries : (version : Version) (text : List ℕ) → EntriesRead version text text [] 2
no_entries version text = record { whole = refl; good = All-nil EntryInRange; stand = All-nil (EntryStands version); place_is = refl; room = omega arith }

all_right : (version : Version) (text rest : List ℕ) (log : List Entry) (number : ℕ) → EntriesRead version text rest log number → AllByRecursion (IsRight version) log
all_right version text rest log number so_far = both_right version log (recursion_from_All (EntryStands version) log so_far.stand) (recursion_from_All EntryInRange log so_far.good)

one_entry_more : (log : List Entry) (entry : Entry) (line after : List ℕ) → line ≡ entry_body entry → flat_map entry_line log ++ (line ++ 10 ∷ after) ≡ flat_map entry_line (log ++ entry ∷ []) ++ after
one_entry_more log entry line after spelled =
    let last : line ++ 10 ∷ after ≡ entry_line entry ++ after = ap (λ (body : List ℕ). body ++ 10 ∷ after) spelled ∙ sym (append_assoc (entry_body entry) (codes "\n") after) in
    let all : flat_map entry_line (log ++ entry ∷ []) ≡ flat_map entry_line log ++ entry_line entry = flat_map-append entry_line log (entry ∷ []) ∙ ap (λ (xs : List ℕ). flat_map entry_line log ++ xs) (append-nil (entry_line entry)) in
    ap (λ (xs : List ℕ). flat_map entry_line log ++ xs) last ∙ sym (append_assoc (flat_map entry_line log) (entry_line entry) after) ∙ ap (λ (xs : List ℕ). xs ++ after) (sym all)

pub entry_more : (version : Version) (text rest line after : List ℕ) (log : List Entry) (number : ℕ) (entry : Entry) → EntriesRead version text rest log number → rest ≡ line ++ 10 ∷ after
    → IsReadingAmong (LineStands version) body_of LineInRange line (Ok (body.Entry entry)) → EntriesRead version text after (log ++ entry ∷ []) (number + 1)
entry_more version text rest line after log number entry so_far split_once read = record {
  whole = so_far.whole ∙ ap (λ (xs : List ℕ). flat_map entry_line log ++ xs) split_once ∙ one_entry_more log entry line after read.1;
  good = All-push EntryInRange log entry so_far.good read.2;
  stand = All-push (EntryStands version) log entry so_far.stand read.0;
  place_is = omega (arith, so_far.place_is, length_push log entry);
  room = omega (arith, so_far.room, length_push log entry, ap (length {A = ℕ}) split_once, length-append line (10 ∷ after));
}

-- where the next line is bad, it is the first bad one
refused_here : (IsBad : List Line → List Line → Type 0) (version : Version) (kind : Kind) (text rest : List ℕ) (log : List Entry) (number : ℕ) (after : List Line) → EntriesRead version text rest log number
    → lines_of rest ≡ after → IsBad (front_lines version kind log) after → IsFirstBad IsBad (header_line version kind ++ text) number
refused_here IsBad version kind text rest log number after so_far are bad = record {
  before = front_lines version kind log;
  after = after;
  lines = ap (λ (xs : List ℕ). lines_of (header_line version kind ++ xs)) so_far.whole ∙ lines-front version kind log rest ∙ ap (λ (ls : List Line). front_lines version kind log ++ ls) are;
  right = front_right version kind log (all_right version text rest log number so_far);
  bad = bad;
  number = omega (arith, so_far.place_is, length-map log entry_line);
}

-- a line with its LF is no entry and no end where nothing is read of it
no_form : (version : Version) (kind : Kind) (line : List ℕ) (others : List Line) → ((value : BodyLine) → LineStands version value → line ≡ body_of value → ⊥) → HasForm (header_line version kind ∷ others) (line ++ codes "\n") → ⊥
no_form version kind line others none form =
    elim form.1 [
      | inl entry ↦ none (body.Entry entry.0) (stands_there version kind entry.0 entry.1) (append_cancel_right line (entry_body entry.0) (codes "\n") entry.2)
      | inr is_end ↦ none body.End tt (append_cancel_right line (codes "end") (codes "\n") is_end)
    ]

bad_number : (version : Version) (kind : Kind) (log : List Entry) (line : List ℕ) (more : List Line) (value : BodyLine) → LineStands version value → line ≡ body_of value → (LineInRange value → ⊥) → IsMisnumbered (front_lines version kind log) ((line ++ codes "\n") ∷ more)
bad_number version kind log line more (body.Entry entry) stands spelled bad =
    let whole : line ++ codes "\n" ≡ entry_line entry = ap (λ (body : List ℕ). body ++ codes "\n") spelled in
    ((entries_no_end log, inl (entry, may_stand version kind entry stands, whole)), (entry, whole, bad))
bad_number version kind log line more body.End stands spelled bad = absurd (bad tt)

pub error_refused : (version : Version) (kind : Kind) (text rest line after : List ℕ) (log : List Entry) (number : ℕ) (error : LineError) → EntriesRead version text rest log number → rest ≡ line ++ 10 ∷ after → Lacks 10 line
    → IsReadingAmong (LineStands version) body_of LineInRange line (Err error) → IsRefusedLog (header_line version kind ++ text) (refusal_of_line error number)
error_refused version kind text rest line after log number errors.Form so_far split_once lacks read =
    refused_here IsMisformed version kind text rest log number _ so_far (ap lines_of split_once ∙ lines-then line after lacks) (no_form version kind line (map entry_line log) read)
error_refused version kind text rest line after log number errors.Number so_far split_once lacks read =
    refused_here IsMisnumbered version kind text rest log number _ so_far (ap lines_of split_once ∙ lines-then line after lacks) (bad_number version kind log line (lines_of after) read.0 read.1 read.2 read.3)
error_refused version kind text rest line after log number errors.NoMemory so_far split_once lacks read = tt

-- a line that lacks its LF has no form
no_open_line : (line body : List ℕ) → Lacks 10 line → line ≡ body ++ codes "\n" → ⊥
no_open_line line body lacks e =
    let last = (subst (Lacks 10) e lacks) (length body) 0 (omega (arith, length_push body 10)) in
    last (get_or_push body 10 0 (length body) refl)

open_no_form : (line : List ℕ) (before : List Line) → Lacks 10 line → HasForm before line → ⊥
open_no_form line [] lacks form = no_open_line line (join_with_byte 32 (codes "log" ∷ version_name form.0 ∷ kind_name form.1 ∷ [])) lacks form.2
open_no_form line (header ∷ others) lacks form =
    elim form.1 [ inl entry ↦ no_open_line line (entry_body entry.0) lacks entry.2 | inr is_end ↦ no_open_line line (codes "end") lacks is_end ]

-- bytes without an LF are a line that lacks it, or no line at all
open_misformed : (rest : List ℕ) (before : List Line) → Lacks 10 rest → HasNoEnd before → IsMisformed before (lines_of rest)
open_misformed [] before lacks unended = unended
open_misformed (x ∷ xs) before lacks unended = subst (IsMisformed before) (sym (lines-open x xs lacks)) (open_no_form (x ∷ xs) before lacks)

pub open_refused : (version : Version) (kind : Kind) (text rest : List ℕ) (log : List Entry) (number : ℕ) → EntriesRead version text rest log number → Lacks 10 rest → IsRefusedLog (header_line version kind ++ text) (refusals.Form number)
open_refused version kind text rest log number so_far lacks =
    let unended = All-cons (λ line. line ≢ end_line) (header_line version kind) (map entry_line log) (header_no_end version kind) (entries_no_end log) in
    refused_here IsMisformed version kind text rest log number _ so_far refl (open_misformed rest (front_lines version kind log) lacks unended)

-- ---- a line after the end

pub one_line : (x : ℕ) (xs : List ℕ) → (line : Line) × (more : List Line) × (lines_of (x ∷ xs) ≡ line ∷ more)
one_line x xs = cond_both (eqb x 10) _ _ (λ (ls : List Line). (line : Line) × (more : List Line) × (ls ≡ line ∷ more)) (λ _. (_, _, refl)) (λ _. put (lines_of xs))
  where
    put : (lines : List Line) → (line : Line) × (more : List Line) × (onto_first x lines ≡ line ∷ more)
    put [] = (_, _, refl)
    put (line ∷ lines) = (_, _, refl)

nothing_follows : (before : List Line) (header line : Line) → HasForm ((header ∷ before) ++ end_line ∷ []) line → ⊥
nothing_follows before header line form =
    let last : end_line ≢ end_line = subst (λ (l : Line). l ≢ end_line) (get_or_push before end_line end_line (length before) refl) (form.0 (length before) end_line (omega (arith, length_push before end_line))) in
    last refl

pub after_end_refused : (version : Version) (kind : Kind) (text rest after : List ℕ) (log : List Entry) (number : ℕ) → EntriesRead version text rest log number → rest ≡ codes "end" ++ 10 ∷ after → (after ≡ [] → ⊥)
    → IsRefusedLog (header_line version kind ++ text) (refusals.Form (number + 1))
after_end_refused version kind text rest [] log number so_far split_once some = absurd (some refl)
after_end_refused version kind text rest (x ∷ xs) log number so_far split_once some =
    let next = one_line x xs in
    let are : lines_of rest ≡ end_line ∷ next.0 ∷ next.1 = ap lines_of split_once ∙ ap (λ (ls : List Line). end_line ∷ ls) next.2 in
    record {
      before = front_lines version kind log ++ end_line ∷ [];
      after = next.0 ∷ next.1;
      lines = ap (λ (bytes : List ℕ). lines_of (header_line version kind ++ bytes)) so_far.whole ∙ lines-front version kind log rest ∙ ap (λ (ls : List Line). front_lines version kind log ++ ls) are
          ∙ sym (append_assoc (front_lines version kind log) (end_line ∷ []) (next.0 ∷ next.1));
      right = whole_right version kind log (all_right version text rest log number so_far);
      bad = nothing_follows (map entry_line log) (header_line version kind) next.0;
      number = omega (arith, so_far.place_is, length-map log entry_line, length_push (front_lines version kind log) end_line);
    }

-- ---- the first line

none_right : AreRight []
none_right [] after line e = absurd (cc)
none_right (first ∷ before) after line e = absurd (cc)

refused_at_once : (text : List ℕ) (after : List Line) → lines_of text ≡ after → IsMisformed [] after → IsRefusedLog text (refusals.Form 1)
refused_at_once text after are bad = record { before = []; after = after; lines = are; right = none_right; bad = bad; number = refl }

pub open_text_refused : (text : List ℕ) → Lacks 10 text → IsRefusedLog text (refusals.Form 1)
open_text_refused text lacks = refused_at_once text _ refl (open_misformed text [] lacks (All-nil (λ line. line ≢ end_line)))

pub no_header_refused : (text line rest : List ℕ) → text ≡ line ++ 10 ∷ rest → Lacks 10 line → ((version : Version) (kind : Kind) → line ++ codes "\n" ≢ header_line version kind) → IsRefusedLog text (refusals.Form 1)
no_header_refused text line rest split_once lacks other = refused_at_once text _ (ap lines_of split_once ∙ lines-then line rest lacks) (λ header. other header.0 header.1 header.2)

-- a text that begins with a header
pub header_then : (text line rest header : List ℕ) → text ≡ line ++ 10 ∷ rest → line ++ codes "\n" ≡ header → header ++ rest ≡ text
header_then text line rest header split_once is = sym (split_once ∙ sym (append_assoc line (codes "\n") rest) ∙ ap (λ (front : List ℕ). front ++ rest) is)
