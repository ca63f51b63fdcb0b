-- The sections that were read of a text, line by line, and its first bad line.
use Rattle.std.proofs.Common.{◌≡◌, ◌≢◌, ℕ, ◌+◌, ◌<◌, ◌≤◌, List, [], ◌∷◌, ◌++◌, length, map, All, codes, refl, sym, ap, subst, ◌∙◌, inl, inr, eqb, true, false, arith, get_or}
use Rattle.std.specs.Prelude.{◌⊎◌}
use Rattle.std.specs.List.{AllPairs, Contains, flat_map, onto_first}
use lib.Pointwise.{pointwise}
use Rattle.std.proofs.lemmas.Bool.{both_ways, cases_eq, cond_both}
use Rattle.std.proofs.lemmas.Bool.Decides.{Decides-eqb}
use Rattle.std.proofs.lemmas.Slice.Eq.{slice_eq-Decides}
use Rattle.std.proofs.lemmas.List.{append_assoc, append-nil, append_cancel_right, get_or_append_left, get_or_default, get_or_push, length_push, length-append, map_push}
use Rattle.std.proofs.lemmas.List.Elements.{All-contains, All-cons, All-nil, All-push, All-weaker}
use Rattle.std.proofs.lemmas.List.Quantifiers.{all_pairs_push}
use Rattle.std.proofs.lemmas.Grind.{flat_map-append}
use Rattle.list_base.proofs.Separators.{Lacks, lines-open, lines-then}
use Rattle.list_base.proofs.Members.{end_same, here, there}
use Rattle.list_base.proofs.Membership.{all_prefix}
use Rattle.bspl_types.specs.declared.event.Event.{Event}
use Rattle.bspl_types.specs.declared.expanded.Expanded.{Expanded}
use Rattle.bspl_types.specs.History.{instance_of, IsRun, role_of}
use Rattle.bspl_types.specs.Instance.{Fits}
use Rattle.list_base.specs.Lines.{Line, lines_of, end_line}
use Rattle.run_text.specs.RunText.{event_body, event_line, IsFitting}
use Rattle.history_audit.specs.declared.section.Section.{Section}
use Rattle.history_audit.specs.declared.refusal.HistoryRefusal.TheVariants.{Form}
use Rattle.history_audit.specs.Histories.{AreHistories, events_at}
use Rattle.history_audit.specs.HistoryText.{AreSections, head_line, IsHistoriesText, IsSection, role_line, section_text}
use Rattle.history_audit.specs.Refusal.{after_end, BeginsWithout, breaks, front_lines, MayComeAfter, IsRefusedText, no_head, section_lines}
use Rattle.history_audit.specs.inner.Reading.{AreHistoriesOf, BeginsBy, BreaksOff, ExtendsBy, IsTaken, role_body}

-- the sections with one line more
record GrowsBy (x : Expanded) (old new : List Section) (line : Line) : Type 0 where
  are : AreSections x new
  text : flat_map (section_text x) new ≡ flat_map (section_text x) old ++ line
  lines : flat_map (section_lines x) new ≡ flat_map (section_lines x) old ++ line ∷ []

-- a list with one more at its end, flattened
flat_push : {X A : Type 0} (f : X → List A) (xs : List X) (x : X) → flat_map f (xs ++ x ∷ []) ≡ flat_map f xs ++ f x
flat_push f xs x = flat_map-append f xs (x ∷ []) ∙ ap (λ ys. flat_map f xs ++ ys) (append-nil (f x))

-- a section is begun
grows_begun : (x : Expanded) (old new : List Section) (line : List ℕ) → AreSections x old → BeginsBy x old line new → GrowsBy x old new (line ++ codes "\n")
grows_begun x old new line are begins =
    let s : Section = record { role = begins.role; events = [] } in
    let is_line : role_line x begins.role ≡ line ++ codes "\n" = ap (λ (body : List ℕ). body ++ codes "\n") (sym begins.is) in
    subst (λ secs. GrowsBy x old secs (line ++ codes "\n")) (sym begins.begun.is) (record {
      are = record {
        each = All-push (IsSection x) old s are.each (record { known = begins.known; fit = All-nil (λ e. IsFitting x (instance_of e)); own = All-nil (λ e. role_of x e ≡ begins.role) });
        distinct = all_pairs_push (λ s t. s.role ≢ t.role) old s are.distinct (λ k d within same. begins.begun.new (k, get_or old k d, within, refl_at old k d within, same));
      };
      text = flat_push (section_text x) old s ∙ ap (λ (xs : List ℕ). flat_map (section_text x) old ++ xs) (append-nil (role_line x begins.role) ∙ is_line);
      lines = flat_push (section_lines x) old s ∙ ap (λ (l : Line). flat_map (section_lines x) old ++ l ∷ []) is_line;
    })
  where
    refl_at : (xs : List Section) (k : ℕ) (d : Section) → k < length xs → get_or xs k (get_or xs k d) ≡ get_or xs k d
    refl_at xs k d within = get_or_default xs k (get_or xs k d) d within

-- the last section has one event more
grows_extended : (x : Expanded) (old new : List Section) (line : List ℕ) → AreSections x old → ExtendsBy x old line new → GrowsBy x old new (line ++ codes "\n")
grows_extended x old new line are extends =
    let e : Event = extends.event in
    let front : List Section = extends.extended.front in
    let last : Section = extends.extended.last in
    let longer : Section = record last { events = last.events ++ e ∷ [] } in
    let is_line : event_line x e ≡ line ++ codes "\n" = ap (λ (body : List ℕ). body ++ codes "\n") (sym extends.is) in
    let parted : AreSections x (front ++ last ∷ []) = subst (AreSections x) extends.extended.split are in
    let was : IsSection x last = All-contains (IsSection x) (front ++ last ∷ []) last parted.each (end_same front last last refl) in
    let is_text : section_text x longer ≡ section_text x last ++ (line ++ codes "\n") =
    ap (λ (xs : List ℕ). role_line x last.role ++ xs) (flat_push (event_line x) last.events e ∙ ap (λ (xs : List ℕ). flat_map (event_line x) last.events ++ xs) is_line)
    ∙ sym (append_assoc (role_line x last.role) (flat_map (event_line x) last.events) (line ++ codes "\n")) in
    let is_lines : section_lines x longer ≡ section_lines x last ++ (line ++ codes "\n") ∷ [] =
    ap (λ (ls : List Line). role_line x last.role ∷ ls) (map_push (event_line x) last.events e ∙ ap (λ (l : Line). map (event_line x) last.events ++ l ∷ []) is_line) in
    subst (λ secs. GrowsBy x secs new (line ++ codes "\n")) (sym extends.extended.split)
    (subst (λ secs. GrowsBy x (front ++ last ∷ []) secs (line ++ codes "\n")) (sym extends.extended.is) (record {
      are = record {
        each = All-push (IsSection x) front longer (all_prefix (IsSection x) front (last ∷ []) parted.each) (record {
          known = was.known;
          fit = All-push (λ f. IsFitting x (instance_of f)) last.events e was.fit extends.fitting;
          own = All-push (λ f. role_of x f ≡ last.role) last.events e was.own extends.extended.own;
        });
        distinct = pairs_replaced front last longer refl parted.distinct;
      };
      text = flat_push (section_text x) front longer ∙ ap (λ (xs : List ℕ). flat_map (section_text x) front ++ xs) is_text
          ∙ sym (append_assoc (flat_map (section_text x) front) (section_text x last) (line ++ codes "\n")) ∙ ap (λ (xs : List ℕ). xs ++ (line ++ codes "\n")) (sym (flat_push (section_text x) front last));
      lines = flat_push (section_lines x) front longer ∙ ap (λ (ls : List Line). flat_map (section_lines x) front ++ ls) is_lines
          ∙ sym (append_assoc (flat_map (section_lines x) front) (section_lines x last) ((line ++ codes "\n") ∷ [])) ∙ ap (λ (ls : List Line). ls ++ (line ++ codes "\n") ∷ []) (sym (flat_push (section_lines x) front last));
    }))
  where
    pairs_replaced : (front : List Section) (last longer : Section) → longer.role ≡ last.role → AllPairs (λ s t. s.role ≢ t.role) (front ++ last ∷ []) → AllPairs (λ s t. s.role ≢ t.role) (front ++ longer ∷ [])
    pairs_replaced front last longer same distinct =
        all_pairs_push (λ s t. s.role ≢ t.role) front longer
        (λ i j d less within equal. distinct i j d less (omega (arith, within, length_push front last)) (ap (λ (s : Section). s.role) (get_or_append_left front (last ∷ []) d i (omega (arith, less, within))) ∙ equal ∙ sym (ap (λ (s : Section). s.role) (get_or_append_left front (last ∷ []) d j within))))
        (λ k d within equal. distinct k (length front) d within (omega (arith, length_push front last)) (ap (λ (s : Section). s.role) (get_or_append_left front (last ∷ []) d k within) ∙ equal ∙ same ∙ sym (ap (λ (s : Section). s.role) (get_or_push front last d (length front) refl))))

-- what was read of the text is sections, and this is left from the line at the number on
pub record SectionsRead (x : Expanded) (text rest : List ℕ) (sections : List Section) (number : ℕ) : Type 0 where
  pub are : AreSections x sections
  pub whole : text ≡ flat_map (section_text x) sections ++ rest
  pub lines : lines_of (head_line ++ text) ≡ front_lines x sections ++ lines_of rest
  pub number_is : number ≡ length (front_lines x sections) + 1
  pub room : number + length rest ≤ length text + 2

-- nothing was read
pub no_sections : (x : Expanded) (text : List ℕ) → SectionsRead x text text [] 2
no_sections x text =
    record {
      are = record { each = All-nil (IsSection x); distinct = λ i j d less within. absurd (omega (arith, within)) };
      whole = refl;
      lines = refl;
      number_is = refl;
      room = omega arith;
    }

-- a line that is taken in was read
pub line_more : (x : Expanded) (text rest line after : List ℕ) (old new : List Section) (number : ℕ) → SectionsRead x text rest old number → rest ≡ line ++ 10 ∷ after → Lacks 10 line → IsTaken x old line new → SectionsRead x text after new (number + 1)
line_more x text rest line after old new number so_far split lacks taken =
    let grows : GrowsBy x old new (line ++ codes "\n") = elim taken [ inl begins ↦ grows_begun x old new line so_far.are begins | inr extends ↦ grows_extended x old new line so_far.are extends ] in
    let front : List Line = front_lines x old in
    record {
      are = grows.are;
      whole = so_far.whole ∙ ap (λ (xs : List ℕ). flat_map (section_text x) old ++ xs) (split ∙ sym (append_assoc line (codes "\n") after))
          ∙ sym (append_assoc (flat_map (section_text x) old) (line ++ codes "\n") after) ∙ ap (λ (xs : List ℕ). xs ++ after) (sym grows.text);
      lines = so_far.lines ∙ ap (λ (ls : List Line). front ++ ls) (ap lines_of split ∙ lines-then line after lacks)
          ∙ sym (append_assoc front ((line ++ codes "\n") ∷ []) (lines_of after)) ∙ ap (λ (ls : List Line). (head_line ∷ ls) ++ lines_of after) (sym grows.lines);
      number_is = omega (arith, so_far.number_is, ap length grows.lines, length_push (flat_map (section_lines x) old) (line ++ codes "\n"));
      room = omega (arith, so_far.room, ap (length {A = ℕ}) split, length-append line (10 ∷ after));
    }

-- a line that breaks off is the first bad one
pub line_refused : (x : Expanded) (text rest line after : List ℕ) (sections : List Section) (number : ℕ) → SectionsRead x text rest sections number → rest ≡ line ++ 10 ∷ after → Lacks 10 line → line ≢ codes "end" → BreaksOff x sections line → IsRefusedText x (head_line ++ text) (Form number)
line_refused x text rest line after sections number so_far split lacks no_end breaks_off =
    breaks sections ((line ++ codes "\n") ∷ lines_of after) number so_far.are
    (so_far.lines ∙ ap (λ (ls : List Line). front_lines x sections ++ ls) (ap lines_of split ∙ lines-then line after lacks))
    (λ form. elim form [
      | inl opens ↦ breaks_off.opens opens
      | inr other ↦ elim other [ inl extends ↦ breaks_off.extends extends | inr is_end ↦ no_end (append_cancel_right line (codes "end") (codes "\n") is_end) ]
    ])
    so_far.number_is

-- a line that lacks its LF has no form
no_open_line : (line body : List ℕ) → Lacks 10 line → line ≡ body ++ codes "\n" → ⊥
no_open_line line body lacks e =
    let last = (subst (Lacks 10) e lacks) (length body) 0 (omega (arith, length_push body 10)) in
    last (get_or_push body 10 0 (length body) refl)

-- so bytes without an LF break off
open_misformed : (x : Expanded) (rest : List ℕ) (sections : List Section) → Lacks 10 rest → BeginsWithout (MayComeAfter x sections) (lines_of rest)
open_misformed x [] sections lacks = tt
open_misformed x (b ∷ rest) sections lacks = subst (BeginsWithout (MayComeAfter x sections)) (sym (lines-open b rest lacks)) (λ form. elim form [
  | inl opens ↦ no_open_line (b ∷ rest) (role_body x opens.role) lacks opens.is
  | inr other ↦ elim other [ inl extends ↦ no_open_line (b ∷ rest) (event_body x extends.event) lacks extends.is | inr is_end ↦ no_open_line (b ∷ rest) (codes "end") lacks is_end ]
])

-- and are the first bad line
pub open_refused : (x : Expanded) (text rest : List ℕ) (sections : List Section) (number : ℕ) → SectionsRead x text rest sections number → Lacks 10 rest → IsRefusedText x (head_line ++ text) (Form number)
open_refused x text rest sections number so_far lacks = breaks sections (lines_of rest) number so_far.are so_far.lines (open_misformed x rest sections lacks) so_far.number_is

-- bytes have a first line
one_line : (b : ℕ) (bytes : List ℕ) → (line : Line) × (more : List Line) × (lines_of (b ∷ bytes) ≡ line ∷ more)
one_line b bytes = cond_both (eqb b 10) _ _ (λ (ls : List Line). (line : Line) × (more : List Line) × (ls ≡ line ∷ more)) (λ _. (_, _, refl)) (λ _. put (lines_of bytes))
  where
    put : (lines : List Line) → (line : Line) × (more : List Line) × (onto_first b lines ≡ line ∷ more)
    put [] = (_, _, refl)
    put (line ∷ lines) = (_, _, refl)

-- so bytes after `end` are bad
pub after_end_refused : (x : Expanded) (text rest after : List ℕ) (sections : List Section) (number : ℕ) → SectionsRead x text rest sections number → rest ≡ codes "end" ++ 10 ∷ after → (after ≡ [] → ⊥) → IsRefusedText x (head_line ++ text) (Form (number + 1))
after_end_refused x text rest [] sections number so_far split some = absurd (some refl)
after_end_refused x text rest (b ∷ bytes) sections number so_far split some =
    let next = one_line b bytes in
    after_end sections next.0 next.1 (number + 1) so_far.are
    (so_far.lines ∙ ap (λ (ls : List Line). front_lines x sections ++ ls) (ap lines_of split ∙ ap (λ (ls : List Line). end_line ∷ ls) next.2))
    (omega (arith, so_far.number_is))

-- `end` after the sections is the end of the text
pub text_read : (x : Expanded) (text rest after : List ℕ) (sections : List Section) (number : ℕ) (histories : List (List Event)) → SectionsRead x text rest sections number → rest ≡ codes "end" ++ 10 ∷ after → length after ≡ 0 → AreHistoriesOf x sections histories → IsHistoriesText x (head_line ++ text) histories
text_read x text rest (b ∷ after) sections number histories so_far split none given = absurd (omega (arith, none))
text_read x text rest [] sections number histories so_far split none given =
    record {
      sections = sections;
      are = so_far.are;
      text = ap (λ (bytes : List ℕ). head_line ++ bytes) (so_far.whole ∙ ap (λ (bytes : List ℕ). flat_map (section_text x) sections ++ bytes) split)
          ∙ sym (append_assoc head_line (flat_map (section_text x) sections) end_line);
      count = given.count;
      named = given.named;
      unnamed = given.unnamed;
    }

-- a text without an LF has no head
pub open_text_refused : (x : Expanded) (text : List ℕ) → Lacks 10 text → IsRefusedText x text (Form 1)
open_text_refused x [] lacks = no_head [] refl tt
open_text_refused x (b ∷ text) lacks = no_head ((b ∷ text) ∷ []) (lines-open b text lacks) (no_open_line (b ∷ text) (codes "histories 1") lacks)

-- nor has one whose first line is another
pub no_head_refused : (x : Expanded) (text line rest : List ℕ) → text ≡ line ++ 10 ∷ rest → Lacks 10 line → line ≢ codes "histories 1" → IsRefusedText x text (Form 1)
no_head_refused x text line rest split lacks other =
    no_head ((line ++ codes "\n") ∷ lines_of rest) (ap lines_of split ∙ lines-then line rest lacks) (λ head. other (append_cancel_right line (codes "histories 1") (codes "\n") head))

-- a text that begins with the head
pub head_then : (text line rest : List ℕ) → text ≡ line ++ 10 ∷ rest → line ≡ codes "histories 1" → head_line ++ rest ≡ text
head_then text line rest split is = sym (split ∙ ap (λ (front : List ℕ). front ++ 10 ∷ rest) is)

-- a role has a section, or none
pub section_or_none : (sections : List Section) (role : ℕ) → ((s : Section) × Contains sections s × (s.role ≡ role)) ⊎ All (λ s. s.role ≢ role) sections
section_or_none [] role = inr (All-nil (λ s. s.role ≢ role))
section_or_none (s ∷ sections) role = elim (cases_eq s.role role) [
  | inl same ↦ inl (s, here s sections, same)
  | inr differs ↦ elim (section_or_none sections role) [
    | inl found ↦ inl (found.0, there s sections found.0 found.1, found.2)
    | inr none ↦ inr (All-cons (λ t. t.role ≢ role) s sections differs none)
  ]
]

-- what is read has a history for each role, with its own events
pub read_are_histories : (x : Expanded) (text : List ℕ) (histories : List (List Event)) → IsHistoriesText x text histories → AreHistories x histories
read_are_histories x text histories read =
    record {
      count = read.count;
      fit = λ role. elim (section_or_none read.sections role) [
        | inl found ↦ subst (IsRun x) (is_history found.0 role found.1 found.2)
            (All-weaker (λ e. IsFitting x (instance_of e)) (λ e. Fits x (instance_of e)) (λ e fitting. fitting.fits) found.0.events (section found.0 found.1).fit)
        | inr none ↦ subst (IsRun x) (sym (read.unnamed role none)) (All-nil (λ e. Fits x (instance_of e)))
      ];
      own = λ role. elim (section_or_none read.sections role) [
        | inl found ↦ subst (λ r. All (λ e. role_of x e ≡ r) (events_at histories role)) found.2
            (subst (All (λ e. role_of x e ≡ found.0.role)) (is_history found.0 role found.1 found.2) (section found.0 found.1).own)
        | inr none ↦ subst (All (λ e. role_of x e ≡ role)) (sym (read.unnamed role none)) (All-nil (λ e. role_of x e ≡ role))
      ];
    }
  where
    section : (s : Section) → Contains read.sections s → IsSection x s
    section s among = All-contains (IsSection x) read.sections s read.are.each among

    is_history : (s : Section) (role : ℕ) → Contains read.sections s → s.role ≡ role → s.events ≡ events_at histories role
    is_history s role among same = sym (All-contains (λ t. events_at histories t.role ≡ t.events) read.sections s read.named among) ∙ ap (events_at histories) same

-- bytes that pass the test are the word
pub same_word : (line word : List ℕ) → pointwise eqb line word ≡ true → line ≡ word
same_word line word is = (slice_eq-Decides Decides-eqb line word (pointwise eqb line word) refl).0 is

-- bytes that fail it are not
pub other_word : (line word : List ℕ) → pointwise eqb line word ≡ false → line ≢ word
other_word line word other is = both_ways _ other ((slice_eq-Decides Decides-eqb line word (pointwise eqb line word) refl).1 is)
