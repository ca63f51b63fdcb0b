-- The lines of the text of sections, and what follows where two lists of sections begin with the same lines.
use Rattle.std.proofs.Common.{◌≡◌, ◌≢◌, ℕ, ◌<◌, List, [], ◌∷◌, ◌++◌, length, map, drop, All, codes, refl, sym, ap, ap₂, subst, ◌∙◌, inl, inr, arith}
use Rattle.std.specs.Prelude.{◌⊎◌}
use Rattle.std.specs.List.{flat_map}
use Rattle.std.proofs.lemmas.List.{append_assoc, append-nil, append_cancel_left, append_cancel_right, get_or_append_left, get_or_at, length-append}
use Rattle.std.proofs.lemmas.List.Elements.{All-append, All-contains, All-from_recursion, All-head, All-tail, Contains-append_right}
use Rattle.list_base.proofs.Members.{here}
use Rattle.list_base.proofs.Separators.{Lacks, lines-then}
use Rattle.list_base.specs.Lines.{Line, lines_of, end_line}
use Rattle.bspl_types.specs.declared.event.Event.{Event}
use Rattle.bspl_types.specs.declared.expanded.Expanded.{Expanded}
use Rattle.bspl_types.specs.Admission.{IsAdmitted}
use Rattle.bspl_types.specs.History.{instance_of, role_of}
use Rattle.bspl_types.specs.Expansion.{role_name}
use Rattle.run_text.specs.Names.{EventsAreLines, NamesAreFields}
use Rattle.run_text.specs.Refusal.{LineHasOneEvent}
use Rattle.run_text.specs.RunText.{event_body, event_line, IsFitting}
use Rattle.history_audit.specs.declared.section.Section.{Section}
use Rattle.history_audit.specs.HistoryText.{AreSections, head_line, histories_text, IsSection, role_line, section_text}
use Rattle.history_audit.specs.Refusal.{ExtendsSection, front_lines, OpensSection, section_lines}
use Rattle.history_audit.specs.inner.Reading.{role_body}
use Rattle.history_audit.proofs.SectionLemmas.{one_role, role_is_no_event}

-- ---- the lines of a text

-- neither names nor events have an LF
pub record HaveNoLf : Type 0 where
  pub names : NamesAreFields
  pub events : EventsAreLines

-- so it is with the line of a role
role_lacks : HaveNoLf → (x : Expanded) (role : ℕ) → role < length x.roles → Lacks 10 (role_body x role)
role_lacks bare x role known =
    All-append (λ byte. byte ≢ 10) (codes "role ") (role_name x role)
    (All-from_recursion (λ byte. byte ≢ 10) (codes "role ") ((λ e. omega arith), ((λ e. omega arith), ((λ e. omega arith), ((λ e. omega arith), ((λ e. omega arith), tt))))))
    (bare.names (role_name x role) (x.shape.role_names.named role [] known)).no_end

-- the line of a role, and those after it
lines-role : HaveNoLf → (x : Expanded) (role : ℕ) (rest : List ℕ) → role < length x.roles → lines_of (role_line x role ++ rest) ≡ role_line x role ∷ lines_of rest
lines-role bare x role rest known = ap lines_of (append_assoc (role_body x role) (codes "\n") rest) ∙ lines-then (role_body x role) rest (role_lacks bare x role known)

-- the lines of events, and those after them
lines-events : HaveNoLf → (x : Expanded) (events : List Event) (rest : List ℕ) → All (λ e. IsFitting x (instance_of e)) events → lines_of (flat_map (event_line x) events ++ rest) ≡ map (event_line x) events ++ lines_of rest
lines-events bare x [] rest fit = refl
lines-events bare x (e ∷ events) rest fit =
    let body = event_body x e in
    let more = flat_map (event_line x) events ++ rest in
    ap lines_of (append_assoc (event_line x e) (flat_map (event_line x) events) rest ∙ append_assoc body (codes "\n") more)
    ∙ lines-then body more (bare.events x e (All-head (λ f. IsFitting x (instance_of f)) e events fit))
    ∙ ap (λ (lines : List Line). event_line x e ∷ lines) (lines-events bare x events rest (All-tail (λ f. IsFitting x (instance_of f)) e events fit))

-- the lines of sections, and those after them
lines-sections : HaveNoLf → (x : Expanded) (sections : List Section) (rest : List ℕ) → All (IsSection x) sections → lines_of (flat_map (section_text x) sections ++ rest) ≡ flat_map (section_lines x) sections ++ lines_of rest
lines-sections bare x [] rest each = refl
lines-sections bare x (s ∷ sections) rest each =
    let is = All-head (IsSection x) s sections each in
    let more = flat_map (section_text x) sections ++ rest in
    let events = flat_map (event_line x) s.events in
    ap lines_of (append_assoc (section_text x s) (flat_map (section_text x) sections) rest ∙ append_assoc (role_line x s.role) events more)
    ∙ lines-role bare x s.role (events ++ more) is.known
    ∙ ap (λ (lines : List Line). role_line x s.role ∷ lines) (lines-events bare x s.events more is.fit)
    ∙ ap (λ (lines : List Line). section_lines x s ++ lines) (lines-sections bare x sections rest (All-tail (IsSection x) s sections each))
    ∙ sym (append_assoc (section_lines x s) (flat_map (section_lines x) sections) (lines_of rest))

-- the lines of a whole text
pub lines-text : HaveNoLf → (x : Expanded) (sections : List Section) → All (IsSection x) sections → lines_of (histories_text x sections) ≡ front_lines x sections ++ end_line ∷ []
lines-text bare x sections each =
    ap lines_of (append_assoc head_line (flat_map (section_text x) sections) end_line)
    ∙ ap (λ (lines : List Line). head_line ∷ lines) (lines-sections bare x sections end_line each)

-- ---- two lists of events

-- the event fits and is the role's
abbrev IsOf : Expanded → ℕ → Event → Type 0
IsOf x role e = IsFitting x (instance_of e) × (role_of x e ≡ role)

-- they are the same, or one goes on where the other stops
data EventsMeet (x : Expanded) (role : ℕ) (one other : List Event) (after rest : List Line) : Type 0 where
  alike : one ≡ other → after ≡ rest → EventsMeet x role one other after rest
  short : (e : Event) (more : List Line) → IsOf x role e → after ≡ event_line x e ∷ more → EventsMeet x role one other after rest
  long : (e : Event) (more : List Line) → IsOf x role e → rest ≡ event_line x e ∷ more → EventsMeet x role one other after rest

-- so it is if the lines are the same
events_meet : LineHasOneEvent → (x : Expanded) → IsAdmitted x → (role : ℕ) (one other : List Event) (after rest : List Line) → All (IsOf x role) one → All (IsOf x role) other → map (event_line x) one ++ after ≡ map (event_line x) other ++ rest → EventsMeet x role one other after rest
events_meet once x admitted role [] [] after rest of_one of_other same = alike refl same
events_meet once x admitted role [] (f ∷ other) after rest of_one of_other same = short f (map (event_line x) other ++ rest) (All-head (IsOf x role) f other of_other) same
events_meet once x admitted role (e ∷ one) [] after rest of_one of_other same = long e (map (event_line x) one ++ after) (All-head (IsOf x role) e one of_one) (sym same)
events_meet once x admitted role (e ∷ one) (f ∷ other) after rest of_one of_other same =
    let lines : event_line x e ≡ event_line x f = cc in
    let first : e ≡ f = once x e f admitted (All-head (IsOf x role) e one of_one).0 (All-head (IsOf x role) f other of_other).0 lines in
    elim (events_meet once x admitted role one other after rest (All-tail (IsOf x role) e one of_one) (All-tail (IsOf x role) f other of_other) (ap (drop 1) same)) [
      | alike is rests ↦ alike (ap₂ (λ (h : Event) (t : List Event). h ∷ t) first is) rests
      | short g more of is ↦ short g more of is
      | long g more of is ↦ long g more of is
    ]

-- ---- two lists of sections

-- the line may come after the sections, and is not `end`
abbrev pub Grows : Expanded → List Section → Line → Type 0
Grows x sections line = OpensSection x sections line ⊎ ExtendsSection x sections line

-- after the same sections they are the same, or one goes on where the other stops
pub data SectionsMeet (x : Expanded) (before one other : List Section) (after rest : List Line) : Type 0 where
  equal : one ≡ other → after ≡ rest → SectionsMeet x before one other after rest
  stops : (line : Line) (more : List Line) → after ≡ line ∷ more → Grows x (before ++ one) line → SectionsMeet x before one other after rest
  goes_on : (line : Line) (more : List Line) → rest ≡ line ∷ more → Grows x (before ++ other) line → SectionsMeet x before one other after rest

-- a section among others
section_at : (x : Expanded) (before : List Section) (s : Section) (after : List Section) → AreSections x (before ++ s ∷ after) → IsSection x s
section_at x before s after are = All-contains (IsSection x) (before ++ s ∷ after) s are.each (Contains-append_right before (s ∷ after) s (here s after))

-- its line begins it after those before it
opens_at : (x : Expanded) (before : List Section) (s : Section) (after : List Section) → AreSections x (before ++ s ∷ after) → OpensSection x before (role_line x s.role)
opens_at x before s after are = record {
  role = s.role;
  known = (section_at x before s after are).known;
  new = λ k d within same. are.distinct k (length before) d within (omega (arith, length-append before (s ∷ after)))
      (ap (λ (t : Section). t.role) (get_or_append_left before (s ∷ after) d k within) ∙ same ∙ sym (ap (λ (t : Section). t.role) (get_or_at before s after d (length before) refl)));
  is = refl;
}

-- the line of an event of its role, if that comes next, is not in a section after it
extends_at : (x : Expanded) (before : List Section) (s : Section) (others : List Section) (after more : List Line) (e : Event) → IsOf x s.role e → flat_map (section_lines x) others ++ after ≡ event_line x e ∷ more → (after ≡ event_line x e ∷ more) × Grows x (before ++ s ∷ others) (event_line x e)
extends_at x before s [] after more e of is = (is, inr (record { front = before; last = s; split = refl; event = e; fitting = of.0; own = of.1; is = refl }))
extends_at x before s (u ∷ others) after more e of is =
    let lines : role_line x u.role ≡ event_line x e = cc in
    absurd (role_is_no_event x u.role e (append_cancel_right (role_body x u.role) (event_body x e) (codes "\n") lines))

-- roles of one line are one
same_role : (x : Expanded) (j k : ℕ) → j < length x.roles → k < length x.roles → role_line x j ≡ role_line x k → j ≡ k
same_role x j k known also lines =
    one_role x j k known also (append_cancel_left (codes "role ") (role_name x j) (role_name x k) (append_cancel_right (role_body x j) (role_body x k) (codes "\n") lines))

-- sections of the same lines
pub sections_meet : LineHasOneEvent → (x : Expanded) → IsAdmitted x → (before one other : List Section) (after rest : List Line) → AreSections x (before ++ one) → AreSections x (before ++ other) → flat_map (section_lines x) one ++ after ≡ flat_map (section_lines x) other ++ rest → SectionsMeet x before one other after rest
sections_meet once x admitted before [] [] after rest are also same = equal refl same
sections_meet once x admitted before [] (t ∷ other) after rest are also same =
    stops (role_line x t.role) ((map (event_line x) t.events ++ flat_map (section_lines x) other) ++ rest) same (inl (subst (λ ss. OpensSection x ss (role_line x t.role)) (sym (append-nil before)) (opens_at x before t other also)))
sections_meet once x admitted before (s ∷ one) [] after rest are also same =
    goes_on (role_line x s.role) ((map (event_line x) s.events ++ flat_map (section_lines x) one) ++ after) (sym same) (inl (subst (λ ss. OpensSection x ss (role_line x s.role)) (sym (append-nil before)) (opens_at x before s one are)))
sections_meet once x admitted before (s ∷ one) (t ∷ other) after rest are also same =
    let a = section_at x before s one are in
    let b = section_at x before t other also in
    let lines : role_line x s.role ≡ role_line x t.role = cc in
    let roles : s.role ≡ t.role = same_role x s.role t.role a.known b.known lines in
    let own : All (λ e. role_of x e ≡ s.role) t.events = subst (λ r. All (λ e. role_of x e ≡ r) t.events) (sym roles) b.own in
    let mine = flat_map (section_lines x) one in
    let yours = flat_map (section_lines x) other in
    let tails = sym (append_assoc (map (event_line x) s.events) mine after) ∙ ap (drop 1) same ∙ append_assoc (map (event_line x) t.events) yours rest in
    elim (events_meet once x admitted s.role s.events t.events (mine ++ after) (yours ++ rest) (λ k d within. (a.fit k d within, a.own k d within)) (λ k d within. (b.fit k d within, own k d within)) tails) [
      | alike events rests ↦
          let whole : s ≡ t = ap₂ (λ (r : ℕ) (es : List Event). record { role = r; events = es }) roles events in
          let moved : (before ++ s ∷ []) ++ other ≡ before ++ t ∷ other = append_assoc before (s ∷ []) other ∙ ap (λ (u : Section). before ++ u ∷ other) whole in
          elim (sections_meet once x admitted (before ++ s ∷ []) one other after rest (subst (AreSections x) (sym (append_assoc before (s ∷ []) one)) are) (subst (AreSections x) (sym moved) also) rests) [
            | equal is ends ↦ equal (ap₂ (λ (h : Section) (ss : List Section). h ∷ ss) whole is) ends
            | stops line more at grows ↦ stops line more at (subst (λ ss. Grows x ss line) (append_assoc before (s ∷ []) one) grows)
            | goes_on line more at grows ↦ goes_on line more at (subst (λ ss. Grows x ss line) moved grows)
          ]
      | short e more of is ↦ let next = extends_at x before s one after more e of is in stops (event_line x e) more next.0 next.1
      | long e more of is ↦ let next = extends_at x before t other rest more e (of.0, of.1 ∙ roles) is in goes_on (event_line x e) more next.0 next.1
    ]
