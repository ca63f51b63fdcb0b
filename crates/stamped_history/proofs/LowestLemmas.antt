-- The lowest next entry, with one role more.
use Rattle.std.proofs.Common.{◌≡◌, ℕ, ◌+◌, ◌<◌, ◌≤◌, ◌⊎◌, inl, inr, List, [], ◌∷◌, ◌++◌, Option, Some, None, length, get_or, take, refl, sym, ap, ◌∙◌, subst, arith}
use Rattle.std.specs.Prelude.{nat_lt}
use Rattle.std.proofs.lemmas.Bool.{cases_order, cond_both}
use Rattle.std.proofs.lemmas.Bool.Decides.{nat_tests}
use Rattle.std.proofs.lemmas.List.{get_or_append_left, get_or_past, get_or_push, length-append, length-take-le, take_more}
use Rattle.stamped_history.specs.declared.entry.Entry.{Entry}
use Rattle.stamped_history.specs.declared.entry.RoleEntry.{RoleEntry}
use Rattle.stamped_history.specs.declared.cursor.Cursor.{Cursor}
use Rattle.stamped_history.specs.inner.Cursors.{cursor_of, IsLowest, IsLowestOf, IsNext, lower}

-- a cursor past the last one
abbrev pub no_cursor : Cursor
no_cursor = record { index = 0; next = None }

-- an entry that comes next is of a role that has a cursor
pub next_within : (cursors : List Cursor) (e : RoleEntry) → IsNext cursors e → e.role < length cursors
next_within cursors e next = elim (cases_order e.role (length cursors)) [
  | inl same ↦ absurd (let past = get_or_past cursors e.role no_cursor (omega arith) in let none = ap (λ (c : Cursor). c.next) past in (cc))
  | inr (inl less) ↦ less
  | inr (inr more) ↦ absurd (let past = get_or_past cursors e.role no_cursor (omega arith) in let none = ap (λ (c : Cursor). c.next) past in (cc))
]

-- with one cursor more it still comes next
next_kept : (cursors : List Cursor) (c : Cursor) (e : RoleEntry) → IsNext cursors e → IsNext (cursors ++ c ∷ []) e
next_kept cursors c e next =
    ap (λ (d : Cursor). d.next) (get_or_append_left cursors (c ∷ []) no_cursor e.role (next_within cursors e next)) ∙ next

-- so does the entry of that cursor
next_added : (cursors : List Cursor) (c : Cursor) (entry : Entry) → c.next ≡ Some entry → IsNext (cursors ++ c ∷ []) (record { role = length cursors; entry = entry })
next_added cursors c entry is = ap (λ (d : Cursor). d.next) (get_or_push cursors c no_cursor (length cursors) refl) ∙ is

-- and no other
next_cases : (cursors : List Cursor) (c : Cursor) (e : RoleEntry) → IsNext (cursors ++ c ∷ []) e → (IsNext cursors e) ⊎ ((e.role ≡ length cursors) × (c.next ≡ Some e.entry))
next_cases cursors c e next = elim (cases_order e.role (length cursors)) [
  | inl same ↦ inr (same, sym (ap (λ (d : Cursor). d.next) (get_or_push cursors c no_cursor e.role (sym same))) ∙ next)
  | inr (inl less) ↦ inl (sym (ap (λ (d : Cursor). d.next) (get_or_append_left cursors (c ∷ []) no_cursor e.role less)) ∙ next)
  | inr (inr more) ↦ absurd (let within = next_within (cursors ++ c ∷ []) e next in omega (arith, length-append cursors (c ∷ [])))
]

-- the new entry's stamp is lower
added_is_lowest : (cursors : List Cursor) (c : Cursor) (first : RoleEntry) (entry : Entry) → IsLowest cursors first → c.next ≡ Some entry → entry.stamp < first.entry.stamp → IsLowest (cursors ++ c ∷ []) (record { role = length cursors; entry = entry })
added_is_lowest cursors c first entry found is less =
    record {
      next = next_added cursors c entry is;
      lowest = λ e differs next. elim (next_cases cursors c e next) [
        | inl old ↦ inl (elim (cases_order e.role first.role) [
          | inl same ↦ (
              let here : Some first.entry ≡ Some e.entry = sym found.next ∙ ap (λ r. (cursor_of cursors r).next) (sym same) ∙ old in
              let stamps : first.entry.stamp ≡ e.entry.stamp = cc in omega arith
              )
          | inr other ↦ elim (found.lowest e (λ same. elim other [ inl a ↦ omega arith | inr b ↦ omega arith ]) old) [
            | inl lower_stamp ↦ omega arith
            | inr tie ↦ omega (arith, tie.0)
          ]
        ])
        | inr at ↦ absurd (differs at.0)
      ];
    }

-- it is not
found_stays : (cursors : List Cursor) (c : Cursor) (first : RoleEntry) (entry : Entry) → IsLowest cursors first → c.next ≡ Some entry → first.entry.stamp ≤ entry.stamp → IsLowest (cursors ++ c ∷ []) first
found_stays cursors c first entry found is low =
    record {
      next = next_kept cursors c first found.next;
      lowest = λ e differs next. elim (next_cases cursors c e next) [
        | inl old ↦ found.lowest e differs old
        | inr at ↦ (
            let same : Some entry ≡ Some e.entry = sym is ∙ at.1 in
            let stamps : entry.stamp ≡ e.entry.stamp = cc in
            let role : e.role ≡ length cursors = at.0 in
            let within : first.role < length cursors = next_within cursors first found.next in
            elim (cases_order first.entry.stamp e.entry.stamp) [
              | inl tie ↦ inr (tie, omega arith)
              | inr (inl less) ↦ inl less
              | inr (inr more) ↦ absurd (omega arith)
            ]
            )
      ];
    }

-- one role more
lowest_push : (cursors : List Cursor) (c : Cursor) (found : Option RoleEntry) (next : Option Entry) → IsLowestOf cursors found → c.next ≡ next → IsLowestOf (cursors ++ c ∷ []) (lower found (length cursors) next)
lowest_push cursors c None None none is = λ e next. elim (next_cases cursors c e next) [ inl old ↦ none e old | inr at ↦ absurd (let no_entry = at.1 in (cc)) ]
lowest_push cursors c (Some first) None found is =
    record {
      next = next_kept cursors c first found.next;
      lowest = λ e differs next. elim (next_cases cursors c e next) [ inl old ↦ found.lowest e differs old | inr at ↦ absurd (let no_entry = at.1 in (cc)) ];
    }
lowest_push cursors c None (Some entry) none is =
    record {
      next = next_added cursors c entry is;
      lowest = λ e differs next. elim (next_cases cursors c e next) [ inl old ↦ absurd (none e old) | inr at ↦ absurd (differs at.0) ];
    }
lowest_push cursors c (Some first) (Some entry) found is =
    cond_both (nat_lt entry.stamp first.entry.stamp) (record { role = length cursors; entry = entry }) first (IsLowest (cursors ++ c ∷ []))
    (λ yes. added_is_lowest cursors c first entry found is (grind (arith, nat_tests)))
    (λ not_lower. found_stays cursors c first entry found is (grind (arith, nat_tests)))

-- at the next index
pub lowest_more : (cursors : List Cursor) (role : ℕ) (c : Cursor) (found : Option RoleEntry) → role < length cursors → get_or cursors role c ≡ c → IsLowestOf (take role cursors) found → IsLowestOf (take (role + 1) cursors) (lower found role c.next)
lowest_more cursors role c found within is lowest =
    let count : length (take role cursors) ≡ role = length-take-le role cursors (omega arith) in
    let longer : take (role + 1) cursors ≡ take role cursors ++ c ∷ [] = take_more cursors role c within ∙ ap (λ d. take role cursors ++ d ∷ []) is in
    subst (λ cs. IsLowestOf cs (lower found role c.next)) (sym longer)
    (subst (λ r. IsLowestOf (take role cursors ++ c ∷ []) (lower found r c.next)) count (lowest_push (take role cursors) c found c.next lowest refl))
