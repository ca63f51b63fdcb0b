-- One more key, with a blank row.
use Rattle.std.proofs.Common.{◌≡◌, ◌≢◌, ℕ, ◌+◌, ◌-◌, ◌*◌, ◌<◌, ◌⊎◌, Bool, false, List, [], ◌∷◌, ◌++◌, length, get_or, Option, None, Some, Result, Ok, Err, inl, inr, refl, sym, ap, ◌∙◌, subst, arith}
use Rattle.std.specs.Prelude.{slice_get, OnOk, OnErr}
use Rattle.std.specs.List.{All, Contains}
use Rattle.std.proofs.lemmas.Bool.{cases_lt, true≢false}
use Rattle.std.proofs.lemmas.List.{get_or-append_right, get_or_append_left, get_or_past, length_push}
use Rattle.std.proofs.lemmas.List.Elements.{All-contains, All-push, Contains-get_or}
use Rattle.std.proofs.lemmas.List.Quantifiers.{all_pairs_push}
use Rattle.std.proofs.lemmas.Option.{none-some, slice_get-get_or, slice_get_within, get_or_from_slice_get}
use Rattle.bspl_types.specs.declared.expanded.Expanded.{Expanded}
use Rattle.bspl_types.specs.declared.value.Value.{Value}
use Rattle.stamped_history.specs.Entries.{events_of, last_stamp}
use Rattle.stamped_history.specs.Local.{IsLocal}
use Rattle.local_store.specs.inner.Acts.{ActsState, Rows, entries_in}
use Rattle.local_store.specs.inner.Kept.{IsIndex, IsKept, IsSound, rows_of, state_of}
use Rattle.local_store.proofs.EntryLemmas.{entries_stay}
use Rattle.local_store.proofs.RoleLemmas.{no_event, nothing_known}
use Rattle.local_store.proofs.SoundLemmas.{sound}

-- items that are blank change nothing, since past the end each item is
pub blank_end : {T : Type 0} (blank : T) (xs ys : List T) → All (λ y. y ≡ blank) ys → (i : ℕ) → get_or (xs ++ ys) i blank ≡ get_or xs i blank
blank_end blank xs ys all i = elim (cases_lt i (length xs)) [
  | inl less ↦ get_or_append_left xs ys blank i less
  | inr past ↦ get_or-append_right xs ys (length xs) i blank refl past
      ∙ (elim (cases_lt (i - length xs) (length ys)) [
        | inl within ↦ all (i - length xs) blank within
        | inr beyond ↦ get_or_past ys (i - length xs) blank beyond
      ])
      ∙ sym (get_or_past xs i blank past)
]

pub covered : {T : Type 0} (blank : T) (old new ys : List T) → (new ≡ old) ⊎ (new ≡ old ++ ys) → All (λ y. y ≡ blank) ys → (i : ℕ) → get_or new i blank ≡ get_or old i blank
covered blank old new ys either all i = elim either [
  | inl same ↦ ap (λ xs. get_or xs i blank) same
  | inr more ↦ ap (λ xs. get_or xs i blank) more ∙ blank_end blank old ys all i
]

-- the rows with one more key
abbrev pub with_key : Rows → List Value → Rows
with_key rows key = record { keys = rows.keys ++ key ∷ []; cell = rows.cell; mark = rows.mark }

pub entries_same : (x : Expanded) (role clock : ℕ) (rows : Rows) (log : ActsState) (key : List Value) → IsKept x role rows log clock → entries_in x (with_key rows key) log.acts ≡ entries_in x rows log.acts
entries_same x role clock rows log key kept = entries_stay x rows (with_key rows key) log.acts
    (λ a among. get_or_append_left rows.keys (key ∷ []) [] a.row (All-contains (λ b. b.row < length rows.keys) log.acts a kept.within among))
    (λ a c among carried. refl)

-- the key at a row is an old one, or the new one
key_cases : (keys : List (List Value)) (key other : List Value) (row : ℕ) → slice_get (keys ++ key ∷ []) row ≡ Some other → (slice_get keys row ≡ Some other) ⊎ ((row ≡ length keys) × (key ≡ other))
key_cases keys key other row at = elim (cases_lt row (length keys)) [
  | inl less ↦ inl (slice_get-get_or keys row [] less ∙ ap Some (sym (get_or_append_left keys (key ∷ []) [] row less) ∙ get_or_from_slice_get (keys ++ key ∷ []) row other [] at))
  | inr past ↦
      let is : row ≡ length keys = omega (arith, past, slice_get_within (keys ++ key ∷ []) row other at, length_push keys key) in
      let none : row - length keys ≡ 0 = omega (arith, is) in
      inr (is, sym (get_or-append_right keys (key ∷ []) (length keys) row [] refl past ∙ ap (λ n. get_or (key ∷ []) n []) none) ∙ get_or_from_slice_get (keys ++ key ∷ []) row other [] at)
]

pub kept_key : (x : Expanded) (role clock : ℕ) (rows : Rows) (log : ActsState) (key : List Value) → IsKept x role rows log clock → length key ≡ length x.keys → ¬ Contains rows.keys key → length rows.keys < 4294967295 → IsKept x role (with_key rows key) log clock
kept_key x role clock rows log key kept whole fresh few =
    let same = entries_same x role clock rows log key kept in
    let s = state_of x role rows log in
    let is_sound : IsSound s = sound x role clock rows log s kept refl in
    let longer : length (rows.keys ++ key ∷ []) ≡ length rows.keys + 1 = length_push rows.keys key in
    let history = events_of (entries_in x rows log.acts) in
    let index : IsIndex x (with_key rows key) history = record {
      knows = λ row k p v at exists. elim (key_cases rows.keys key k row at) [
        | inl old ↦ kept.index.knows row k p v old exists
        | inr (is, new) ↦ (
          λ cell. absurd (none-some v (sym (kept.index.blank_cells row p (omega (arith, is)) exists) ∙ cell)),
          λ known. absurd (nothing_known s k p is_sound (subst (λ q. ¬ Contains rows.keys q) new fresh) (v, known)),
        )
      ];
      happened = λ row k m at exists. elim (key_cases rows.keys key k row at) [
        | inl old ↦ kept.index.happened row k m old exists
        | inr (is, new) ↦ (
          λ mark. absurd (true≢false (sym mark ∙ kept.index.blank_marks row m (omega (arith, is)) exists)),
          λ has. absurd (no_event s k m is_sound (subst (λ q. ¬ Contains rows.keys q) new fresh) has),
        )
      ];
      blank_cells = λ row p past exists. kept.index.blank_cells row p (omega (arith, past, longer)) exists;
      blank_marks = λ row m past exists. kept.index.blank_marks row m (omega (arith, past, longer)) exists;
    } in
    record {
      admitted = kept.admitted;
      known_role = kept.known_role;
      keys = record {
        distinct = all_pairs_push ◌≢◌ rows.keys key kept.keys.distinct (λ k d less is. fresh (subst (Contains rows.keys) is (Contains-get_or rows.keys k d less)));
        whole = All-push (λ k. length k ≡ length x.keys) rows.keys key kept.keys.whole whole;
      };
      few_keys = omega (arith, longer, few);
      within = λ k d less. omega (arith, longer, kept.within k d less);
      index = subst (λ es. IsIndex x (with_key rows key) (events_of es)) (sym same) index;
      local = subst (IsLocal x role) (sym same) kept.local;
      clock_is = kept.clock_is ∙ ap last_stamp (sym same);
    }

-- grids with the same items give the same rows
pub rows_same : (x : Expanded) (keys : List (List Value)) (cells cells' : List (Option Value)) (marks marks' : List Bool) → ((i : ℕ) → get_or cells' i None ≡ get_or cells i None) → ((i : ℕ) → get_or marks' i false ≡ get_or marks i false) → rows_of x keys cells' marks' ≡ rows_of x keys cells marks
rows_same x keys cells cells' marks marks' cell mark = λ j. record {
  keys = keys;
  cell = λ row p. cell (row * length x.params + p) j;
  mark = λ row m. mark (row * length x.messages + m) j;
}

-- one of the two cases
pub either_case : {A E : Type 0} (r : Result A E) (P Q : Type 0) → OnOk r P → OnErr r Q → P ⊎ Q
either_case (Ok a) P Q ok err = inl ok
either_case (Err e) P Q ok err = inr err

pub on_err_of : {A E : Type 0} (r : Result A E) (P : Type 0) → P → OnErr r P
on_err_of (Ok a) P p = tt
on_err_of (Err e) P p = p

pub on_err_then : {A E : Type 0} (r : Result A E) (P Q : Type 0) → OnErr r P → (P → Q) → OnErr r Q
on_err_then (Ok a) P Q err then_q = tt
on_err_then (Err e) P Q err then_q = then_q err

pub on_ok_then : {A E : Type 0} (r : Result A E) (P Q : Type 0) → OnOk r P → (P → Q) → OnOk r Q
on_ok_then (Ok a) P Q ok then_q = then_q ok
on_ok_then (Err e) P Q ok then_q = tt

-- what contracts see of a store with one more key
pub state_key : (x : Expanded) (role clock : ℕ) (rows : Rows) (log : ActsState) (key : List Value) → IsKept x role rows log clock → state_of x role (with_key rows key) log ≡ record (state_of x role rows log) { keys = rows.keys ++ key ∷ [] }
state_key x role clock rows log key kept = λ j. record { protocol = x; role = role; keys = rows.keys ++ key ∷ []; entries = entries_same x role clock rows log key kept j; spare = log.spare }
