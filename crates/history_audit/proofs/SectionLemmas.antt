-- Sections become histories, and a line is taken in or breaks off.
use Rattle.std.proofs.Common.{◌≡◌, ◌≢◌, ℕ, zero, suc, add-one, ◌+◌, ◌<◌, List, [], ◌∷◌, ◌++◌, length, map, get_or, set, replicate, All, Some, None, codes, refl, sym, ap, subst, ◌∙◌, inl, inr, arith}
use Rattle.std.specs.List.{AllPairs, Contains, position}
use Rattle.std.specs.Str.{bytes_eq}
use Rattle.std.proofs.lemmas.Bool.{cases_order}
use Rattle.std.proofs.lemmas.List.{append_assoc, append-nil, append_cancel_left, append_cancel_right, get_or-map, get_or_at, get_or-append-add, get_or-set_other, get_or-set_same, length-append, length-map, length-set}
use Rattle.std.proofs.lemmas.List.Elements.{All-contains, All-cons, All-head, All-nil, All-tail, Contains-append_right, Contains-get_or}
use Rattle.std.proofs.lemmas.List.Quantifiers.{position-Some}
use Rattle.std.proofs.lemmas.Option.{none-some}
use Rattle.std.proofs.lemmas.Slice.Eq.{bytes_eq-Decides}
use Rattle.list_base.proofs.FirstIndex.{named_index}
use Rattle.list_base.proofs.Members.{here}
use Rattle.bspl_types.specs.declared.event.Event.{Event}
use Rattle.bspl_types.specs.declared.event.Event.TheVariants.{Emit, Receive}
use Rattle.bspl_types.specs.declared.expanded.Expanded.{Expanded}
use Rattle.bspl_types.specs.Admission.{IsAdmitted}
use Rattle.bspl_types.specs.History.{instance_of, role_of}
use Rattle.bspl_types.specs.Expansion.{role_name}
use Rattle.run_text.specs.Refusal.{LineHasOneEvent}
use Rattle.run_text.specs.RunText.{event_body, IsFitting}
use Rattle.history_audit.specs.declared.section.Section.{Section}
use Rattle.history_audit.specs.HistoryText.{AreSections, IsSection}
use Rattle.history_audit.specs.Histories.{events_at}
use Rattle.history_audit.specs.inner.Reading.{AreHistoriesOf, BreaksOff, HasSection, IsForeign, role_body}

-- ---- sections become histories

-- some sections have moved into the histories, and these are left
pub record HaveMoved (x : Expanded) (all left : List Section) (histories : List (List Event)) : Type 0 where
  pub moved : List Section
  pub split : all ≡ left ++ moved
  pub count : length histories ≡ length x.roles
  pub named : All (λ s. events_at histories s.role ≡ s.events) moved
  pub unnamed : (role : ℕ) → All (λ s. s.role ≢ role) moved → events_at histories role ≡ []

-- at first none has
pub none_moved : (x : Expanded) (all : List Section) (histories : List (List Event)) → histories ≡ replicate (length x.roles) [] → HaveMoved x all all histories
none_moved x all histories empty =
    record {
      moved = [];
      split = sym (append-nil all);
      count = ap length empty ∙ count_empty (length x.roles);
      named = All-nil (λ s. events_at histories s.role ≡ s.events);
      unnamed = λ role none. ap (λ hs. events_at hs role) empty ∙ all_empty (length x.roles) role;
    }
  where
    count_empty : (n : ℕ) → length (replicate {A = List Event} n []) ≡ n
    count_empty zero = refl
    count_empty (suc n) = ap suc (count_empty n)

    all_empty : (n role : ℕ) → events_at (replicate n []) role ≡ []
    all_empty zero role = refl
    all_empty (suc n) zero = refl
    all_empty (suc n) (suc role) = all_empty n role

-- the last one that is left moves
pub one_moves : (x : Expanded) (all left fewer : List Section) (s : Section) (histories : List (List Event)) → AreSections x all → left ≡ fewer ++ s ∷ [] → HaveMoved x all left histories → HaveMoved x all fewer (set histories s.role s.events)
one_moves x all left fewer s histories are split so_far =
    let whole : all ≡ fewer ++ (s ∷ so_far.moved) = so_far.split ∙ ap (λ ss. ss ++ so_far.moved) split ∙ append_assoc fewer (s ∷ []) so_far.moved in
    let among : Contains all s = subst (λ ss. Contains ss s) (sym whole) (Contains-append_right fewer (s ∷ so_far.moved) s (here s so_far.moved)) in
    let within : s.role < length histories = let known = (All-contains (IsSection x) all s are.each among).known in omega (arith, known, so_far.count) in
    let apart : All (λ t. t.role ≢ s.role) so_far.moved = others fewer s so_far.moved (subst (AllPairs (λ t u. t.role ≢ u.role)) whole are.distinct) in
    record {
      moved = s ∷ so_far.moved;
      split = whole;
      count = length-set histories s.role s.events ∙ so_far.count;
      named = All-cons (λ t. events_at (set histories s.role s.events) t.role ≡ t.events) s so_far.moved
          (get_or-set_same histories s.role s.events [] within)
          (λ k d inside. get_or-set_other histories s.role (get_or so_far.moved k d).role s.events [] (apart k d inside) ∙ so_far.named k d inside);
      unnamed = λ role none.
          get_or-set_other histories s.role role s.events [] (λ same. All-head (λ t. t.role ≢ role) s so_far.moved none (sym same))
          ∙ so_far.unnamed role (All-tail (λ t. t.role ≢ role) s so_far.moved none);
    }
  where
    others : (before : List Section) (t : Section) (after : List Section) → AllPairs (λ u v. u.role ≢ v.role) (before ++ t ∷ after) → All (λ u. u.role ≢ t.role) after
    others before t after distinct k d inside same =
        distinct (length before) (length before + (k + 1)) d (omega arith) (omega (arith, inside, length-append before (t ∷ after)))
        (ap (λ (u : Section). u.role) (get_or_at before t after d (length before) refl) ∙ sym same ∙ ap (λ (u : Section). u.role) (sym (get_or-append-add before (t ∷ after) (k + 1) d ∙ step k)))
      where
        step : (j : ℕ) → get_or (t ∷ after) (j + 1) d ≡ get_or after j d
        step j = ap (λ n. get_or (t ∷ after) n d) (add-one j)

-- when none is left all have
pub all_moved : (x : Expanded) (all left : List Section) (histories : List (List Event)) → left ≡ [] → HaveMoved x all left histories → AreHistoriesOf x all histories
all_moved x all left histories none so_far =
    let is : all ≡ so_far.moved = so_far.split ∙ ap (λ ss. ss ++ so_far.moved) none in
    record {
      count = so_far.count;
      named = subst (All (λ s. events_at histories s.role ≡ s.events)) (sym is) so_far.named;
      unnamed = λ role absent. so_far.unnamed role (subst (All (λ s. s.role ≢ role)) is absent);
    }

-- ---- names of roles

-- what is found has the name
pub found_role : (x : Expanded) (name : List ℕ) (k : ℕ) → Some k ≡ position (λ y. bytes_eq y name) x.roles → (k < length x.roles) × (name ≡ role_name x k)
found_role x name k is =
    let found = position-Some (λ y. bytes_eq y name) x.roles k [] (sym is) in
    (found.0, sym ((bytes_eq-Decides (get_or x.roles k []) name).0 found.1))

-- if nothing is found no role has the name
pub none_role : (x : Expanded) (name : List ℕ) → None ≡ position (λ y. bytes_eq y name) x.roles → (k : ℕ) → k < length x.roles → name ≢ role_name x k
none_role x name none k within same =
    let at : get_or (map (λ (r : List ℕ). r) x.roles) k [] ≡ role_name x k = get_or-map (λ (r : List ℕ). r) x.roles k [] [] within in
    let long : k < length (map (λ (r : List ℕ). r) x.roles) = rw (length-map x.roles (λ (r : List ℕ). r)) within in
    let among : Contains (map (λ (r : List ℕ). r) x.roles) name = subst (Contains (map (λ (r : List ℕ). r) x.roles)) (at ∙ sym same) (Contains-get_or (map (λ (r : List ℕ). r) x.roles) k [] long) in
    let found = named_index (λ (r : List ℕ). r) x.roles name among in
    none-some found.0 (none ∙ found.2)

-- the line of a role that is found
pub found_line : (x : Expanded) (line name : List ℕ) (k : ℕ) → line ≡ codes "role " ++ name → Some k ≡ position (λ y. bytes_eq y name) x.roles → (k < length x.roles) × (line ≡ role_body x k)
found_line x line name k whole is = let found = found_role x name k is in (found.0, whole ∙ ap (λ (text : List ℕ). codes "role " ++ text) found.1)

-- and one of no role
pub none_line : (x : Expanded) (line name : List ℕ) → line ≡ codes "role " ++ name → None ≡ position (λ y. bytes_eq y name) x.roles → (k : ℕ) → k < length x.roles → line ≢ role_body x k
none_line x line name whole none k within same = none_role x name none k within (append_cancel_left (codes "role ") name (role_name x k) (sym whole ∙ same))

-- roles of one name are one
pub one_role : (x : Expanded) (j k : ℕ) → j < length x.roles → k < length x.roles → role_name x j ≡ role_name x k → j ≡ k
one_role x j k known also same =
    elim (cases_order j k) [
      | inl is ↦ is
      | inr (inl less) ↦ absurd (x.shape.role_names.distinct j k [] less also same)
      | inr (inr more) ↦ absurd (x.shape.role_names.distinct k j [] more known (sym same))
    ]

-- the line of a role is that of no event
pub role_is_no_event : (x : Expanded) (role : ℕ) (e : Event) → role_body x role ≡ event_body x e → ⊥
role_is_no_event x role (Emit i) same = let first : 114 ≡ 115 = ap (λ (bytes : List ℕ). get_or bytes 0 0) same in absurd (omega (arith, first))
role_is_no_event x role (Receive i) same = let second : 111 ≡ 101 = ap (λ (bytes : List ℕ). get_or bytes 1 0) same in absurd (omega (arith, second))

-- ---- lines that break off

-- a line without its LF
line_is : (line body : List ℕ) → line ++ codes "\n" ≡ body ++ codes "\n" → line ≡ body
line_is line body same = append_cancel_right line body (codes "\n") same

-- a line of no role and of no event
pub breaks_none : (x : Expanded) (sections : List Section) (line : List ℕ) → ((role : ℕ) → role < length x.roles → line ≢ role_body x role) → ((e : Event) → IsFitting x (instance_of e) → line ≢ event_body x e) → BreaksOff x sections line
breaks_none x sections line no_role no_event =
    record {
      opens = λ opens. no_role opens.role opens.known (line_is line (role_body x opens.role) opens.is);
      extends = λ extends. no_event extends.event extends.fitting (line_is line (event_body x extends.event) extends.is);
    }

-- the line of a role that has a section
pub breaks_again : (x : Expanded) (sections : List Section) (line : List ℕ) (role : ℕ) → role < length x.roles → line ≡ role_body x role → HasSection sections role → BreaksOff x sections line
breaks_again x sections line role known is has =
    record {
      opens = λ opens.
          let bodies : role_body x role ≡ role_body x opens.role = sym is ∙ line_is line (role_body x opens.role) opens.is in
          let same : role ≡ opens.role = one_role x role opens.role known opens.known (append_cancel_left (codes "role ") (role_name x role) (role_name x opens.role) bodies) in
          let (k, s, within, at, own) = has in
          opens.new k s within (ap (λ (t : Section). t.role) at ∙ own ∙ same);
      extends = λ extends. role_is_no_event x role extends.event (sym is ∙ line_is line (event_body x extends.event) extends.is);
    }

-- the line of an event of another role
pub breaks_foreign : LineHasOneEvent → (x : Expanded) → IsAdmitted x → (sections : List Section) (line : List ℕ) (e : Event) → ((role : ℕ) → role < length x.roles → line ≢ role_body x role) → IsFitting x (instance_of e) → line ≡ event_body x e → IsForeign x sections e → BreaksOff x sections line
breaks_foreign law x admitted sections line e no_role fitting is foreign =
    record {
      opens = λ opens. no_role opens.role opens.known (line_is line (role_body x opens.role) opens.is);
      extends = λ extends.
          let same : e ≡ extends.event = law x e extends.event admitted fitting extends.fitting (ap (λ (body : List ℕ). body ++ codes "\n") (sym is) ∙ extends.is) in
          foreign extends.front extends.last extends.split (ap (role_of x) same ∙ extends.own);
    }
