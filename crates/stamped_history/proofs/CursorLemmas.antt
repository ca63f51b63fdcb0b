-- What the merge keeps: the events so far are those of the entries before the cursors, in order.
use Rattle.std.proofs.Common.{◌≡◌, ℕ, zero, suc, false, Option, ◌+◌, ◌-◌, ◌<◌, ◌≤◌, ◌⊎◌, inl, inr, List, [], ◌∷◌, ◌++◌, Some, None, length, get_or, map, set, take, refl, sym, ap, ◌∙◌, subst, arith, All, Contains}
use Rattle.std.specs.Prelude.{◌==◌, slice_get}
use Rattle.std.specs.List.{AllPairs, filter}
use Rattle.std.proofs.lemmas.Bool.{cases_eq, cond-true, cond-false}
use Rattle.std.proofs.lemmas.Bool.Decides.{Decides-eqb, nat_tests}
use Rattle.std.proofs.lemmas.List.{append-nil, get_or-map, get_or-set_other, get_or-set_same, length-map, length-set, map-append, map_push, take_all, take_more}
use Rattle.std.proofs.lemmas.List.Elements.{All-get_or, All-map, Contains-get_or, Contains-push_cases, filter-append}
use Rattle.std.proofs.lemmas.List.Quantifiers.{all_pairs_push}
use Rattle.std.proofs.lemmas.Option.{get_or_from_slice_get, none-some, slice_get_within}
use Rattle.list_base.proofs.Members.{nowhere}
use Rattle.bspl_types.specs.declared.event.Event.{Event}
use Rattle.stamped_history.specs.declared.entry.Entry.{Entry}
use Rattle.stamped_history.specs.declared.entry.RoleEntry.{RoleEntry}
use Rattle.stamped_history.specs.Entries.{StampsRise}
use Rattle.stamped_history.specs.Explained.{history_at}
use Rattle.stamped_history.specs.Merged.{ComesBefore, entries_of, IsMerged}
use Rattle.stamped_history.specs.declared.cursor.Cursor.{Cursor}
use Rattle.stamped_history.specs.inner.Cursors.{cursor_at, cursor_of, HasNoNext, IsLowest, IsNext}
use Rattle.stamped_history.proofs.LowestLemmas.{next_within, no_cursor}

-- which comes before another comes before those after it
before_both : (e f g : RoleEntry) → ComesBefore e f → ComesBefore f g → ComesBefore e g
before_both e f g (inl less) (inl more) = inl (omega arith)
before_both e f g (inl less) (inr tie) = inl (omega (arith, tie.0))
before_both e f g (inr tie) (inl more) = inl (omega (arith, tie.0))
before_both e f g (inr tie) (inr also) = inr (tie.0 ∙ also.0, omega (arith, tie.1, also.1))

-- the entries of a role, with one of its own more
entries_push_own : (role : ℕ) (all : List RoleEntry) (e : RoleEntry) → e.role ≡ role → entries_of role (all ++ e ∷ []) ≡ entries_of role all ++ e.entry ∷ []
entries_push_own role all e own =
    ap (map (λ (f : RoleEntry). f.entry)) (filter-append (λ f. f.role == role) all (e ∷ [])
    ∙ ap (λ es. filter (λ f. f.role == role) all ++ es) (cond-true (e.role == role) (e ∷ []) [] ((Decides-eqb e.role role).1 own)))
    ∙ map-append (λ (f : RoleEntry). f.entry) (filter (λ f. f.role == role) all) (e ∷ [])

-- or with one of another role's
entries_push_other : (role : ℕ) (all : List RoleEntry) (e : RoleEntry) → (e.role ≡ role → ⊥) → entries_of role (all ++ e ∷ []) ≡ entries_of role all
entries_push_other role all e other =
    let fails : (e.role == role) ≡ false = grind (arith, nat_tests) in
    ap (map (λ (f : RoleEntry). f.entry)) (filter-append (λ f. f.role == role) all (e ∷ [])
    ∙ ap (λ es. filter (λ f. f.role == role) all ++ es) (cond-false (e.role == role) (e ∷ []) [] fails)
    ∙ append-nil (filter (λ f. f.role == role) all))

-- an index without an item is past the last one
past_last : {X : Type 0} (xs : List X) (i : ℕ) → slice_get xs i ≡ None → length xs ≤ i
past_last [] i is = omega arith
past_last (x ∷ xs) zero is = absurd (none-some x (sym is))
past_last (x ∷ xs) (suc i) is = let rest = past_last xs i is in omega arith

-- each cursor is in its role's history, and the events are those of the entries before the cursors
pub record IsMerging (histories : List (List Entry)) (cursors : List Cursor) (run : List Event) : Type 0 where
  pub count : length cursors ≡ length histories
  pub at : (role : ℕ) → cursor_of cursors role ≡ cursor_at (history_at histories role) (cursor_of cursors role).index
  pub all : List RoleEntry
  pub sorted : AllPairs ComesBefore all
  pub each : (role : ℕ) → entries_of role all ≡ take (cursor_of cursors role).index (history_at histories role)
  pub before : (e f : RoleEntry) → Contains all e → IsNext cursors f → ComesBefore e f
  pub events : run ≡ map (λ e. e.entry.event) all

-- at the end all entries are merged
pub merged_at_end : (histories : List (List Entry)) (cursors : List Cursor) (run : List Event) → IsMerging histories cursors run → HasNoNext cursors → IsMerged histories run
merged_at_end histories cursors run merging none =
    record {
      all = merging.all;
      sorted = merging.sorted;
      each = λ role.
          let index : ℕ = (cursor_of cursors role).index in
          merging.each role ∙ take_all index (history_at histories role) (past_last (history_at histories role) index (
          sym (ap (λ (c : Cursor). c.next) (merging.at role)) ∙ no_next role (cursor_of cursors role).next refl));
      events = merging.events;
    }
  where
    no_next : (role : ℕ) (next : Option Entry) → (cursor_of cursors role).next ≡ next → next ≡ None
    no_next role None is = refl
    no_next role (Some entry) is = absurd (none (record { role = role; entry = entry }) is)

module _ (histories : List (List Entry)) (cursors : List Cursor) (run : List Event) (merging : IsMerging histories cursors run) (first : RoleEntry) (lowest : IsLowest cursors first) where
  -- the first entry's history, and its index there
  abbrev own : List Entry
  own = history_at histories first.role

  abbrev index : ℕ
  index = (cursor_of cursors first.role).index

  -- it is there
  pub first_at : slice_get own index ≡ Some first.entry
  first_at = sym (ap (λ (c : Cursor). c.next) (merging.at first.role)) ∙ lowest.next

  -- with its cursor one entry on
  abbrev pub advanced : List Cursor
  advanced = set cursors first.role (cursor_at own (index + 1))

  advanced_cases : (role : ℕ) → ((first.role ≡ role) × (cursor_of advanced role ≡ cursor_at own (index + 1))) ⊎ ((first.role ≡ role → ⊥) × (cursor_of advanced role ≡ cursor_of cursors role))
  advanced_cases role = elim (cases_eq role first.role) [
    | inl same ↦ inl (sym same, ap (cursor_of advanced) same ∙ get_or-set_same cursors first.role (cursor_at own (index + 1)) no_cursor (next_within cursors first lowest.next))
    | inr differs ↦ inr ((λ same. differs (sym same)), get_or-set_other cursors first.role role (cursor_at own (index + 1)) no_cursor differs)
  ]

  -- the first entry comes before the next one of its history
  rises : StampsRise own → (f : RoleEntry) → slice_get own (index + 1) ≡ Some f.entry → ComesBefore first f
  rises rising f at =
      let within : index + 1 < length own = slice_get_within own (index + 1) f.entry at in
      let less : (get_or own index f.entry).stamp < (get_or own (index + 1) f.entry).stamp = rising index (index + 1) f.entry (omega arith) within in
      let here : get_or own index f.entry ≡ first.entry = get_or_from_slice_get own index first.entry f.entry first_at in
      let next : get_or own (index + 1) f.entry ≡ f.entry = get_or_from_slice_get own (index + 1) f.entry f.entry at in
      inl (subst (λ (e : Entry). first.entry.stamp < e.stamp) next (subst (λ (e : Entry). e.stamp < (get_or own (index + 1) f.entry).stamp) here less))

  -- and before each entry that comes next then
  first_before : StampsRise own → (f : RoleEntry) → IsNext advanced f → ComesBefore first f
  first_before rising f next = elim (advanced_cases f.role) [
    | inl moved ↦ rises rising f (sym (ap (λ (c : Cursor). c.next) moved.1) ∙ next)
    | inr still ↦ lowest.lowest f (λ same. still.0 (sym same)) (sym (ap (λ (c : Cursor). c.next) still.1) ∙ next)
  ]

  -- so do the entries before it
  all_before : StampsRise own → (e f : RoleEntry) → Contains merging.all e → IsNext advanced f → ComesBefore e f
  all_before rising e f among next =
      before_both e first f (merging.before e first among lowest.next) (first_before rising f next)

  -- its role's entries, with it
  own_entries : entries_of first.role (merging.all ++ first ∷ []) ≡ take (index + 1) own
  own_entries =
      entries_push_own first.role merging.all first refl
      ∙ ap (λ es. es ++ first.entry ∷ []) (merging.each first.role)
      ∙ sym (take_more own index first.entry (slice_get_within own index first.entry first_at)
      ∙ ap (λ e. take index own ++ e ∷ []) (get_or_from_slice_get own index first.entry first.entry first_at))

  -- it is merged
  pub merge_first : StampsRise own → IsMerging histories advanced (run ++ first.entry.event ∷ [])
  merge_first rising =
      record {
        count = length-set cursors first.role (cursor_at own (index + 1)) ∙ merging.count;
        at = λ role. elim (advanced_cases role) [
          | inl moved ↦ subst (λ c. c ≡ cursor_at (history_at histories role) c.index) (sym moved.1) (ap (λ r. cursor_at (history_at histories r) (index + 1)) moved.0)
          | inr still ↦ subst (λ c. c ≡ cursor_at (history_at histories role) c.index) (sym still.1) (merging.at role)
        ];
        all = merging.all ++ first ∷ [];
        sorted = all_pairs_push ComesBefore merging.all first merging.sorted (λ k d within. merging.before (get_or merging.all k d) first (Contains-get_or merging.all k d within) lowest.next);
        each = λ role. elim (advanced_cases role) [
          | inl moved ↦
              subst (λ r. entries_of r (merging.all ++ first ∷ []) ≡ take (index + 1) (history_at histories r)) moved.0 own_entries
              ∙ ap (λ (c : Cursor). take c.index (history_at histories role)) (sym moved.1)
          | inr still ↦ entries_push_other role merging.all first still.0 ∙ merging.each role ∙ ap (λ (c : Cursor). take c.index (history_at histories role)) (sym still.1)
        ];
        before = λ e f among next. elim (Contains-push_cases merging.all first e among) [
          | inl early ↦ all_before rising e f early next
          | inr is ↦ subst (λ g. ComesBefore g f) is (first_before rising f next)
        ];
        events = ap (λ es. es ++ first.entry.event ∷ []) merging.events ∙ sym (map_push (λ (e : RoleEntry). e.entry.event) merging.all first);
      }

-- how many entries come after the cursors
pub entries_left : List (List Entry) → List Cursor → ℕ
entries_left [] cursors = 0
entries_left (h ∷ histories) [] = 0
entries_left (h ∷ histories) (c ∷ cursors) = (length h - c.index) + entries_left histories cursors

-- one less with a cursor one entry on
pub one_less : (histories : List (List Entry)) (cursors : List Cursor) (role : ℕ) (next : Cursor) → role < length cursors → (cursor_of cursors role).index < length (history_at histories role) → next.index ≡ (cursor_of cursors role).index + 1 → entries_left histories (set cursors role next) < entries_left histories cursors
unfolding entries_left
one_less [] cursors role next within more is = absurd (omega (arith, more))
one_less (h ∷ histories) [] role next within more is = absurd (omega (arith, within))
one_less (h ∷ histories) (c ∷ cursors) zero next within more is = omega (arith, more, is)
one_less (h ∷ histories) (c ∷ cursors) (suc role) next within more is =
    let rest = one_less histories cursors role next (omega (arith, within)) more is in omega (arith, rest)

-- at the start each cursor is before the first entry
start_at : {X : Type 0} (f : X → List Entry) (xs : List X) (role : ℕ) → cursor_of (map (λ x. cursor_at (f x) 0) xs) role ≡ cursor_at (history_at (map f xs) role) 0
start_at f [] role = refl
start_at f (x ∷ xs) zero = refl
start_at f (x ∷ xs) (suc role) = start_at f xs role

-- and nothing is merged
pub merging_start : {X : Type 0} (f : X → List Entry) (xs : List X) (cursors : List Cursor) (run : List Event) → cursors ≡ map (λ x. cursor_at (f x) 0) xs → run ≡ [] → IsMerging (map f xs) cursors run
merging_start f xs cursors run start empty =
    let at : (role : ℕ) → cursor_of cursors role ≡ cursor_at (history_at (map f xs) role) 0 = λ role. ap (λ cs. cursor_of cs role) start ∙ start_at f xs role in
    record {
      count = ap length start ∙ length-map xs (λ x. cursor_at (f x) 0) ∙ sym (length-map xs f);
      at = λ role. subst (λ c. c ≡ cursor_at (history_at (map f xs) role) c.index) (sym (at role)) refl;
      all = [];
      sorted = λ i j d less within. absurd (omega (arith, within));
      each = λ role. ap (λ (c : Cursor). take c.index (history_at (map f xs) role)) (sym (at role));
      before = λ e f among next. absurd (nowhere e among);
      events = empty;
    }

-- a step of the merge, over the histories that are read
module _ {X : Type 0} (f : X → List Entry) (xs : List X) (cursors : List Cursor) (run : List Event) (merging : IsMerging (map f xs) cursors run) (first : RoleEntry) (lowest : IsLowest cursors first) (x : X) (c : Cursor) (is : x ≡ get_or xs first.role x) (at : slice_get cursors first.role ≡ Some c) where
  -- the role has a history
  pub role_within : first.role < length xs
  role_within = let within = next_within cursors first lowest.next in omega (arith, merging.count, length-map xs f)

  -- this one
  history_is : history_at (map f xs) first.role ≡ f x
  history_is = get_or-map f xs first.role x [] role_within ∙ ap f (sym is)

  -- and this cursor
  cursor_is : cursor_of cursors first.role ≡ c
  cursor_is = get_or_from_slice_get cursors first.role c no_cursor at

  -- it is not at the end
  pub step_within : c.index < length (f x)
  step_within =
      subst (λ h. c.index < length h) history_is
      (subst (λ (d : Cursor). d.index < length (history_at (map f xs) first.role)) cursor_is
      (slice_get_within (history_at (map f xs) first.role) (cursor_of cursors first.role).index first.entry (first_at (map f xs) cursors run merging first lowest)))

  module _ (next : Cursor) (moved : List Cursor) (longer : List Event) (next_is : next ≡ cursor_at (f x) (c.index + 1)) (moved_is : moved ≡ set cursors first.role next) (longer_is : longer ≡ run ++ first.entry.event ∷ []) where
    -- the cursors after it
    moved_as : moved ≡ advanced (map f xs) cursors run merging first lowest
    moved_as =
        moved_is ∙ ap (set cursors first.role) (next_is ∙ ap (λ h. cursor_at h (c.index + 1)) (sym history_is)
        ∙ ap (λ (d : Cursor). cursor_at (history_at (map f xs) first.role) (d.index + 1)) (sym cursor_is))

    -- one more event is merged
    pub step_keeps : All (λ y. StampsRise (f y)) xs → IsMerging (map f xs) moved longer
    step_keeps rising =
        subst (λ cs. IsMerging (map f xs) cs longer) (sym moved_as)
        (subst (IsMerging (map f xs) (advanced (map f xs) cursors run merging first lowest)) (sym longer_is)
        (merge_first (map f xs) cursors run merging first lowest
        (All-get_or StampsRise (map f xs) first.role [] (omega (arith, role_within, length-map xs f)) (All-map StampsRise f xs rising))))

    -- and one entry less is left
    pub step_less : entries_left (map f xs) moved < entries_left (map f xs) cursors
    step_less =
        subst (λ cs. entries_left (map f xs) cs < entries_left (map f xs) cursors) (sym moved_is)
        (one_less (map f xs) cursors first.role next (next_within cursors first lowest.next)
        (slice_get_within (history_at (map f xs) first.role) (cursor_of cursors first.role).index first.entry (first_at (map f xs) cursors run merging first lowest))
        (ap (λ (d : Cursor). d.index) next_is ∙ ap (λ (d : Cursor). d.index + 1) (sym cursor_is)))
