-- A text gives one list of histories, or has one first bad line, and not both.
use Rattle.std.proofs.Common.{◌≡◌, ◌≢◌, ℕ, ◌+◌, List, [], ◌∷◌, ◌++◌, length, drop, get_or, All, refl, sym, ap, subst, ◌∙◌, inl, inr, arith}
use Rattle.std.specs.List.{flat_map}
use Rattle.std.proofs.lemmas.List.{get_or_default, same_lists}
use Rattle.std.proofs.lemmas.List.Elements.{All-contains}
use Rattle.list_base.specs.Lines.{Line, lines_of, end_line}
use Rattle.bspl_types.specs.declared.event.Event.{Event}
use Rattle.bspl_types.specs.declared.event.Event.TheVariants.{Emit, Receive}
use Rattle.bspl_types.specs.declared.expanded.Expanded.{Expanded}
use Rattle.bspl_types.specs.Admission.{IsAdmitted}
use Rattle.run_text.specs.Refusal.{LineHasOneEvent}
use Rattle.run_text.specs.RunText.{event_line}
use Rattle.history_audit.specs.declared.section.Section.{Section}
use Rattle.history_audit.specs.declared.refusal.HistoryRefusal.{HistoryRefusal}
use Rattle.history_audit.specs.declared.refusal.HistoryRefusal.TheVariants.{Form, NoMemory}
use Rattle.history_audit.specs.Histories.{events_at}
use Rattle.history_audit.specs.HistoryText.{AreSections, head_line, IsHistoriesText, role_line}
use Rattle.history_audit.specs.Refusal.{after_end, BeginsWithout, breaks, front_lines, MayComeAfter, IsFirstBadLine, IsRefusedText, no_head, section_lines}
use Rattle.history_audit.proofs.ReadingLemmas.{section_or_none}
use Rattle.history_audit.proofs.SectionLines.{equal, goes_on, Grows, HaveNoLf, lines-text, sections_meet, stops}

-- ---- where sections end

-- what follows the sections is none of their lines
abbrev EndsThem : Expanded → List Section → List Line → Type 0
EndsThem x sections after = (line : Line) (more : List Line) → after ≡ line ∷ more → Grows x sections line → ⊥

-- lines begin with the same sections, if these are ended
same_front : LineHasOneEvent → (x : Expanded) → IsAdmitted x → (lines : List Line) (one other : List Section) (after rest : List Line) → AreSections x one → AreSections x other → lines ≡ front_lines x one ++ after → lines ≡ front_lines x other ++ rest → EndsThem x one after → EndsThem x other rest → (one ≡ other) × (after ≡ rest)
same_front once x admitted lines one other after rest are also is again ends ends_too =
    elim (sections_meet once x admitted [] one other after rest are also (ap (drop 1) (sym is ∙ again))) [
      | equal same rests ↦ (same, rests)
      | stops line more at grows ↦ absurd (ends line more at grows)
      | goes_on line more at grows ↦ absurd (ends_too line more at grows)
    ]

-- `end` is the line of no role
end_is_no_role : (x : Expanded) (role : ℕ) → end_line ≡ role_line x role → ⊥
end_is_no_role x role same = let first : 101 ≡ 114 = ap (λ (bytes : List ℕ). get_or bytes 0 0) same in absurd (omega (arith, first))

-- and of no event
end_is_no_event : (x : Expanded) (e : Event) → end_line ≡ event_line x e → ⊥
end_is_no_event x (Emit i) same = let first : 101 ≡ 115 = ap (λ (bytes : List ℕ). get_or bytes 0 0) same in absurd (omega (arith, first))
end_is_no_event x (Receive i) same = let first : 101 ≡ 114 = ap (λ (bytes : List ℕ). get_or bytes 0 0) same in absurd (omega (arith, first))

-- so it ends sections
end_ends : (x : Expanded) (sections : List Section) (after : List Line) → EndsThem x sections (end_line ∷ after)
end_ends x sections after line more at (inl opens) = let is : end_line ≡ line = cc in end_is_no_role x opens.role (is ∙ opens.is)
end_ends x sections after line more at (inr extends) = let is : end_line ≡ line = cc in end_is_no_event x extends.event (is ∙ extends.is)

-- and so does a bad line, or none
bad_ends : (x : Expanded) (sections : List Section) (after : List Line) → BeginsWithout (MayComeAfter x sections) after → EndsThem x sections after
bad_ends x sections after bad line more at (inl opens) = (subst (BeginsWithout (MayComeAfter x sections)) at bad) (inl opens)
bad_ends x sections after bad line more at (inr extends) = (subst (BeginsWithout (MayComeAfter x sections)) at bad) (inr (inl extends))

-- `end` is no bad line
bad_is_no_end : (x : Expanded) (sections : List Section) (after more : List Line) → BeginsWithout (MayComeAfter x sections) after → after ≡ end_line ∷ more → ⊥
bad_is_no_end x sections after more bad at = (subst (BeginsWithout (MayComeAfter x sections)) at bad) (inr (inr refl))

-- what begins with the head does not lack it
head_is_there : (after more : List Line) → BeginsWithout (λ line. line ≡ head_line) after → after ≡ head_line ∷ more → ⊥
head_is_there after more lacks at = (subst (BeginsWithout (λ line. line ≡ head_line)) at lacks) refl

-- ---- one bad line

-- a text has one first bad line
one_line : LineHasOneEvent → (x : Expanded) → IsAdmitted x → (text : List ℕ) {m n : ℕ} → IsFirstBadLine x text m → IsFirstBadLine x text n → m ≡ n
one_line once x admitted text (no_head after is lacks) (no_head rest again lacks_too) = refl
one_line once x admitted text (no_head after is lacks) (breaks other rest n also lines bad number) = absurd (head_is_there after (flat_map (section_lines x) other ++ rest) lacks (sym is ∙ lines))
one_line once x admitted text (no_head after is lacks) (after_end other line more n also lines number) = absurd (head_is_there after (flat_map (section_lines x) other ++ end_line ∷ line ∷ more) lacks (sym is ∙ lines))
one_line once x admitted text (breaks one after m are lines bad number) (no_head rest is lacks) = absurd (head_is_there rest (flat_map (section_lines x) one ++ after) lacks (sym is ∙ lines))
one_line once x admitted text (breaks one after m are lines bad number) (breaks other rest n also lines_too bad_too number_too) =
    let same = same_front once x admitted (lines_of text) one other after rest are also lines lines_too (bad_ends x one after bad) (bad_ends x other rest bad_too) in
    number ∙ ap (λ (ss : List Section). length (front_lines x ss) + 1) same.0 ∙ sym number_too
one_line once x admitted text (breaks one after m are lines bad number) (after_end other line more n also lines_too number_too) =
    let same = same_front once x admitted (lines_of text) one other after (end_line ∷ line ∷ more) are also lines lines_too (bad_ends x one after bad) (end_ends x other (line ∷ more)) in
    absurd (bad_is_no_end x one after (line ∷ more) bad same.1)
one_line once x admitted text (after_end one line more m are lines number) (no_head rest is lacks) = absurd (head_is_there rest (flat_map (section_lines x) one ++ end_line ∷ line ∷ more) lacks (sym is ∙ lines))
one_line once x admitted text (after_end one line more m are lines number) (breaks other rest n also lines_too bad number_too) =
    let same = same_front once x admitted (lines_of text) one other (end_line ∷ line ∷ more) rest are also lines lines_too (end_ends x one (line ∷ more)) (bad_ends x other rest bad) in
    absurd (bad_is_no_end x other rest (line ∷ more) bad (sym same.1))
one_line once x admitted text (after_end one line more m are lines number) (after_end other next others n also lines_too number_too) =
    let same = same_front once x admitted (lines_of text) one other (end_line ∷ line ∷ more) (end_line ∷ next ∷ others) are also lines lines_too (end_ends x one (line ∷ more)) (end_ends x other (next ∷ others)) in
    number ∙ ap (λ (ss : List Section). length (front_lines x ss) + 2) same.0 ∙ sym number_too

-- so it has one refusal
pub one_refusal : LineHasOneEvent → (x : Expanded) (text : List ℕ) (refusal other : HistoryRefusal) → IsAdmitted x → refusal ≢ NoMemory → other ≢ NoMemory → IsRefusedText x text refusal → IsRefusedText x text other → refusal ≡ other
one_refusal once x text (Form m) (Form n) admitted some any first second = ap Form (one_line once x admitted text first second)
one_refusal once x text NoMemory other admitted some any first second = absurd (some refl)
one_refusal once x text (Form m) NoMemory admitted some any first second = absurd (any refl)

-- ---- one reading

-- the lines of a text that is read
read_lines : HaveNoLf → (x : Expanded) (text : List ℕ) (histories : List (List Event)) → (read : IsHistoriesText x text histories) → lines_of text ≡ front_lines x read.sections ++ end_line ∷ []
read_lines bare x text histories read = ap lines_of read.text ∙ lines-text bare x read.sections read.are.each

-- none of them is bad
no_bad_line : LineHasOneEvent → HaveNoLf → (x : Expanded) → IsAdmitted x → (text : List ℕ) (histories : List (List Event)) {n : ℕ} → IsHistoriesText x text histories → IsFirstBadLine x text n → ⊥
no_bad_line once bare x admitted text histories read (no_head after is lacks) =
    head_is_there after (flat_map (section_lines x) read.sections ++ end_line ∷ []) lacks (sym is ∙ read_lines bare x text histories read)
no_bad_line once bare x admitted text histories read (breaks other rest n also lines bad number) =
    let same = same_front once x admitted (lines_of text) read.sections other (end_line ∷ []) rest read.are also (read_lines bare x text histories read) lines (end_ends x read.sections []) (bad_ends x other rest bad) in
    bad_is_no_end x other rest [] bad (sym same.1)
no_bad_line once bare x admitted text histories read (after_end other line more n also lines number) =
    let same = same_front once x admitted (lines_of text) read.sections other (end_line ∷ []) (end_line ∷ line ∷ more) read.are also (read_lines bare x text histories read) lines (end_ends x read.sections []) (end_ends x other (line ∷ more)) in
    let longer : [] ≡ line ∷ more = ap (drop 1) same.1 in
    absurd (cc)

-- so it is not refused
pub not_refused : LineHasOneEvent → HaveNoLf → (x : Expanded) (text : List ℕ) (histories : List (List Event)) (refusal : HistoryRefusal) → IsAdmitted x → refusal ≢ NoMemory → IsHistoriesText x text histories → IsRefusedText x text refusal → ⊥
not_refused once bare x text histories (Form n) admitted some read refused = no_bad_line once bare x admitted text histories read refused
not_refused once bare x text histories NoMemory admitted some read refused = some refl

-- two readings give each role one history
same_history : (x : Expanded) (text : List ℕ) (one other : List (List Event)) → (read : IsHistoriesText x text one) (also : IsHistoriesText x text other) → read.sections ≡ also.sections → (role : ℕ) → events_at one role ≡ events_at other role
same_history x text one other read also same role =
    elim (section_or_none read.sections role) [
      | inl found ↦
          let s = found.0 in
          let named : events_at one s.role ≡ s.events = All-contains (λ t. events_at one t.role ≡ t.events) read.sections s read.named found.1 in
          let again : events_at other s.role ≡ s.events = All-contains (λ t. events_at other t.role ≡ t.events) read.sections s (subst (All (λ t. events_at other t.role ≡ t.events)) (sym same) also.named) found.1 in
          ap (events_at one) (sym found.2) ∙ named ∙ sym again ∙ ap (events_at other) found.2
      | inr none ↦ read.unnamed role none ∙ sym (also.unnamed role (subst (All (λ s. s.role ≢ role)) same none))
    ]

-- so they give the same
pub one_reading : LineHasOneEvent → HaveNoLf → (x : Expanded) (text : List ℕ) (one other : List (List Event)) → IsAdmitted x → IsHistoriesText x text one → IsHistoriesText x text other → one ≡ other
one_reading once bare x text one other admitted read also =
    let same = same_front once x admitted (lines_of text) read.sections also.sections (end_line ∷ []) (end_line ∷ []) read.are also.are (read_lines bare x text one read) (read_lines bare x text other also) (end_ends x read.sections []) (end_ends x also.sections []) in
    let counts : length one ≡ length other = read.count ∙ sym also.count in
    same_lists one other counts (λ k d within.
    get_or_default one k d [] within ∙ same_history x text one other read also same.0 k ∙ get_or_default other k [] d (omega (arith, within, counts)))
