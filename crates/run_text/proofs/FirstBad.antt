-- The first bad line of a text, from what is read of its next line.
use Rattle.std.proofs.Common.{◌≡◌, ◌≢◌, ℕ, ◌+◌, ◌≤◌, List, [], ◌∷◌, ◌++◌, length, map, All, codes, refl, sym, ap, subst, ◌∙◌, inl, inr, eqb, arith}
use Rattle.std.specs.List.{flat_map, onto_first}
use Rattle.std.proofs.lemmas.Bool.{cond_both}
use Rattle.std.proofs.lemmas.List.{append_assoc, append-nil, append_cancel_right, get_or_push, length_push, length-map, length-append}
use Rattle.std.proofs.lemmas.List.Elements.{All-nil, All-cons, All-push, recursion_from_All}
use Rattle.std.proofs.lemmas.Grind.{flat_map-append}
use Rattle.bspl_types.specs.declared.event.Event.{Event}
use Rattle.bspl_types.specs.declared.expanded.Expanded.{Expanded}
use Rattle.bspl_types.specs.History.{instance_of}
use Rattle.list_base.specs.Lines.{Line, lines_of, HasNoEnd, end_line}
use Rattle.run_text.specs.declared.refusal.RunRefusal.TheVariants.{Form}
use Rattle.run_text.specs.RunText.{IsFitting, IsRunText, event_line, head_line}
use Rattle.run_text.specs.Refusal.{AreRunLines, HasRunForm, IsFirstOutOfForm, IsOutOfForm, IsRefusedRun}
use Rattle.run_text.specs.inner.LineFields.{event_body}
use Rattle.run_text.proofs.RightLines.{events_no_end, front_lines, front_right, head_no_end, lines-front, whole_right}
use Rattle.list_base.proofs.Separators.{Lacks, lines-open, lines-then}

-- what was read of the text is events that fit, and this is left from the line at the number on
pub record EventsRead (x : Expanded) (text rest : List ℕ) (run : List Event) (number : ℕ) : Type 0 where
  pub whole : text ≡ flat_map (event_line x) run ++ rest
  pub fitting : All (λ event. IsFitting x (instance_of event)) run
  pub number_is : number ≡ length run + 2
  pub room : length run + length rest ≤ length text

-- nothing was read
pub no_events : (x : Expanded) (text : List ℕ) → EventsRead x text text [] 2
no_events x text = record { whole = refl; fitting = All-nil (λ event. IsFitting x (instance_of event)); number_is = refl; room = omega arith }

-- the text of one event more
one_more : (x : Expanded) (run : List Event) (event : Event) (line after : List ℕ) → line ≡ event_body x event → flat_map (event_line x) run ++ (line ++ 10 ∷ after) ≡ flat_map (event_line x) (run ++ event ∷ []) ++ after
one_more x run event line after spelled =
    let last : line ++ 10 ∷ after ≡ event_line x event ++ after = ap (λ (body : List ℕ). body ++ 10 ∷ after) spelled ∙ sym (append_assoc (event_body x event) (codes "\n") after) in
    let all : flat_map (event_line x) (run ++ event ∷ []) ≡ flat_map (event_line x) run ++ event_line x event =
    flat_map-append (event_line x) run (event ∷ []) ∙ ap (λ (xs : List ℕ). flat_map (event_line x) run ++ xs) (append-nil (event_line x event)) in
    ap (λ (xs : List ℕ). flat_map (event_line x) run ++ xs) last ∙ sym (append_assoc (flat_map (event_line x) run) (event_line x event) after) ∙ ap (λ (xs : List ℕ). xs ++ after) (sym all)

-- one event more was read
pub event_more : (x : Expanded) (text rest line after : List ℕ) (run : List Event) (number : ℕ) (event : Event) → EventsRead x text rest run number → rest ≡ line ++ 10 ∷ after → IsFitting x (instance_of event) → line ≡ event_body x event
    → EventsRead x text after (run ++ event ∷ []) (number + 1)
event_more x text rest line after run number event so_far split fitting is = record {
  whole = so_far.whole ∙ ap (λ (xs : List ℕ). flat_map (event_line x) run ++ xs) split ∙ one_more x run event line after is;
  fitting = All-push (λ e. IsFitting x (instance_of e)) run event so_far.fitting fitting;
  number_is = omega (arith, so_far.number_is, length_push run event);
  room = omega (arith, so_far.room, length_push run event, ap (length {A = ℕ}) split, length-append line (10 ∷ after));
}

-- where the next line is bad, it is the first bad one
refused_here : (x : Expanded) (text rest : List ℕ) (run : List Event) (number : ℕ) (after : List Line) → EventsRead x text rest run number → lines_of rest ≡ after → IsOutOfForm x (front_lines x run) after → IsFirstOutOfForm x (head_line ++ text) number
refused_here x text rest run number after so_far are bad =
    let fitting = recursion_from_All (λ event. IsFitting x (instance_of event)) run so_far.fitting in
    record {
      before = front_lines x run;
      after = after;
      lines = ap (λ (xs : List ℕ). lines_of (head_line ++ xs)) so_far.whole ∙ lines-front x run rest fitting ∙ ap (λ (ls : List Line). front_lines x run ++ ls) are;
      right = front_right x run fitting;
      bad = bad;
      number = omega (arith, so_far.number_is, length-map run (event_line x));
    }

-- a line with its LF that is neither `end` nor an event's has not the form
pub line_refused : (x : Expanded) (text rest line after : List ℕ) (run : List Event) (number : ℕ) → EventsRead x text rest run number → rest ≡ line ++ 10 ∷ after → Lacks 10 line → line ≢ codes "end"
    → ((event : Event) → IsFitting x (instance_of event) → line ≢ event_body x event) → IsRefusedRun x (head_line ++ text) (Form number)
line_refused x text rest line after run number so_far split lacks no_end none =
    refused_here x text rest run number _ so_far (ap lines_of split ∙ lines-then line after lacks)
    (λ form. elim form.1 [
      | inl event ↦ none event.0 event.1 (append_cancel_right line (event_body x event.0) (codes "\n") event.2)
      | inr is_end ↦ no_end (append_cancel_right line (codes "end") (codes "\n") is_end)
    ])

-- a line that lacks its LF has no form
no_open_line : (line body : List ℕ) → Lacks 10 line → line ≡ body ++ codes "\n" → ⊥
no_open_line line body lacks e =
    let last = (subst (Lacks 10) e lacks) (length body) 0 (omega (arith, length_push body 10)) in
    last (get_or_push body 10 0 (length body) refl)

-- whatever comes before it
open_no_form : (x : Expanded) (line : List ℕ) (before : List Line) → Lacks 10 line → HasRunForm x before line → ⊥
open_no_form x line [] lacks form = no_open_line line (codes "run 1") lacks form
open_no_form x line (head ∷ others) lacks form =
    elim form.1 [ inl event ↦ no_open_line line (event_body x event.0) lacks event.2 | inr is_end ↦ no_open_line line (codes "end") lacks is_end ]

-- bytes without an LF are a line that lacks it, or no line at all
open_misformed : (x : Expanded) (rest : List ℕ) (before : List Line) → Lacks 10 rest → HasNoEnd before → IsOutOfForm x before (lines_of rest)
open_misformed x [] before lacks unended = unended
open_misformed x (b ∷ rest) before lacks unended = subst (IsOutOfForm x before) (sym (lines-open b rest lacks)) (open_no_form x (b ∷ rest) before lacks)

-- so they are refused after what was read
pub open_refused : (x : Expanded) (text rest : List ℕ) (run : List Event) (number : ℕ) → EventsRead x text rest run number → Lacks 10 rest → IsRefusedRun x (head_line ++ text) (Form number)
open_refused x text rest run number so_far lacks =
    let unended = All-cons (λ line. line ≢ end_line) head_line (map (event_line x) run) head_no_end (events_no_end x run) in
    refused_here x text rest run number _ so_far refl (open_misformed x rest (front_lines x run) lacks unended)

-- ---- a line after the end

-- bytes have a first line
one_line : (b : ℕ) (bytes : List ℕ) → (line : Line) × (more : List Line) × (lines_of (b ∷ bytes) ≡ line ∷ more)
one_line b bytes = cond_both (eqb b 10) _ _ (λ (ls : List Line). (line : Line) × (more : List Line) × (ls ≡ line ∷ more)) (λ _. (_, _, refl)) (λ _. put (lines_of bytes))
  where
    put : (lines : List Line) → (line : Line) × (more : List Line) × (onto_first b lines ≡ line ∷ more)
    put [] = (_, _, refl)
    put (line ∷ lines) = (_, _, refl)

-- no line has the form after `end`
nothing_follows : (x : Expanded) (before : List Line) (head line : Line) → HasRunForm x ((head ∷ before) ++ end_line ∷ []) line → ⊥
nothing_follows x before head line form =
    let last : end_line ≢ end_line = subst (λ (l : Line). l ≢ end_line) (get_or_push before end_line end_line (length before) refl) (form.0 (length before) end_line (omega (arith, length_push before end_line))) in
    last refl

-- so bytes after `end` are refused
pub after_end_refused : (x : Expanded) (text rest after : List ℕ) (run : List Event) (number : ℕ) → EventsRead x text rest run number → rest ≡ codes "end" ++ 10 ∷ after → (after ≡ [] → ⊥) → IsRefusedRun x (head_line ++ text) (Form (number + 1))
after_end_refused x text rest [] run number so_far split some = absurd (some refl)
after_end_refused x text rest (b ∷ bytes) run number so_far split some =
    let next = one_line b bytes in
    let fitting = recursion_from_All (λ event. IsFitting x (instance_of event)) run so_far.fitting in
    let are : lines_of rest ≡ end_line ∷ next.0 ∷ next.1 = ap lines_of split ∙ ap (λ (ls : List Line). end_line ∷ ls) next.2 in
    record {
      before = front_lines x run ++ end_line ∷ [];
      after = next.0 ∷ next.1;
      lines = ap (λ (xs : List ℕ). lines_of (head_line ++ xs)) so_far.whole ∙ lines-front x run rest fitting ∙ ap (λ (ls : List Line). front_lines x run ++ ls) are
          ∙ sym (append_assoc (front_lines x run) (end_line ∷ []) (next.0 ∷ next.1));
      right = whole_right x run fitting;
      bad = nothing_follows x (map (event_line x) run) head_line next.0;
      number = omega (arith, so_far.number_is, length-map run (event_line x), length_push (front_lines x run) end_line);
    }

-- `end` after the events that were read is the end of the run's text
pub run_read : (x : Expanded) (text rest after : List ℕ) (run : List Event) (number : ℕ) → EventsRead x text rest run number → rest ≡ codes "end" ++ 10 ∷ after → length after ≡ 0 → IsRunText x (head_line ++ text) run
run_read x text rest (b ∷ after) run number so_far split none = absurd (omega (arith, none))
run_read x text rest [] run number so_far split none = record {
  fits = λ k d within. (so_far.fitting k d within).fits;
  values = λ k d within. (so_far.fitting k d within).values;
  text =
      ap (λ (bytes : List ℕ). head_line ++ bytes) (so_far.whole ∙ ap (λ (bytes : List ℕ). flat_map (event_line x) run ++ bytes) split)
      ∙ sym (append_assoc head_line (flat_map (event_line x) run) end_line);
}

-- ---- the first line

-- no lines are right
none_right : (x : Expanded) → AreRunLines x []
none_right x [] after line e = absurd (cc)
none_right x (first ∷ before) after line e = absurd (cc)

-- where the first line is bad, it is the first bad one
refused_at_once : (x : Expanded) (text : List ℕ) (after : List Line) → lines_of text ≡ after → IsOutOfForm x [] after → IsRefusedRun x text (Form 1)
refused_at_once x text after are bad = record { before = []; after = after; lines = are; right = none_right x; bad = bad; number = refl }

-- a text without an LF has no head
pub open_text_refused : (x : Expanded) (text : List ℕ) → Lacks 10 text → IsRefusedRun x text (Form 1)
open_text_refused x text lacks = refused_at_once x text _ refl (open_misformed x text [] lacks (All-nil (λ line. line ≢ end_line)))

-- nor has one whose first line is another
pub no_head_refused : (x : Expanded) (text line rest : List ℕ) → text ≡ line ++ 10 ∷ rest → Lacks 10 line → line ≢ codes "run 1" → IsRefusedRun x text (Form 1)
no_head_refused x text line rest split lacks other =
    refused_at_once x text _ (ap lines_of split ∙ lines-then line rest lacks) (λ head. other (append_cancel_right line (codes "run 1") (codes "\n") head))

-- a text that begins with the head
pub head_then : (text line rest : List ℕ) → text ≡ line ++ 10 ∷ rest → line ≡ codes "run 1" → head_line ++ rest ≡ text
head_then text line rest split is = sym (split ∙ ap (λ (front : List ℕ). front ++ 10 ∷ rest) is)
