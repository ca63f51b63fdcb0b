-- The rows of a world, and their fields, one at a time.
use Rattle.std.proofs.Common.{◌≡◌, ℕ, ◌+◌, ◌-◌, ◌<◌, ◌≤◌, ◌⊎◌, inl, inr, Option, Some, zero, suc, List, [], ◌∷◌, ◌++◌, codes, length, map, take, get_or, refl, sym, ap, ◌∙◌, subst, arith}
use Rattle.std.specs.Fmt.{decimal}
use Rattle.std.specs.Prelude.{slice_get}
use Rattle.std.specs.List.{AllZip, concat, enumerate_from, flat_map}
use Rattle.std.proofs.lemmas.List.{append_assoc, append-nil, flat_map_more, length-append, length-take-le, take_all, take_more}
use Rattle.std.proofs.lemmas.List.Concat.{concat_is}
use Rattle.std.proofs.lemmas.List.Folds.{flat_map-map}
use Rattle.std.proofs.lemmas.List.FromFn.{get_or-enumerate_from, length-enumerate_from}
use Rattle.std.proofs.lemmas.Option.{get_or_from_slice_get, slice_get_within}
use Rattle.std.proofs.lemmas.Slice.Zip.{AllZip-long}
use Rattle.list_base.proofs.Zipped.{paired_push}
use Rattle.bspl_types.specs.declared.event.Event.{Event}
use Rattle.bspl_types.specs.declared.expanded.Expanded.{Expanded}
use Rattle.bspl_types.specs.declared.value.Value.{Value}
use Rattle.stamped_history.specs.TableValue.{IsTableValue}
use Rattle.run_text.specs.inner.LineFields.{spaced_fields}
use Rattle.report.specs.WorldRows.{AppendsRows, RowForm}
use Rattle.report.specs.WorldText.{AreCells, AreFirstCells, IsRowLine, cell_field, row_form, row_line}
use Rattle.report.proofs.LineLemmas.{line_spaced, spaced_map}

-- the items with their indices, and one item more
pub enumerate_push : {X : Type 0} (n : ℕ) (xs : List X) (x : X) → enumerate_from n (xs ++ x ∷ []) ≡ enumerate_from n xs ++ (n + length xs, x) ∷ []
enumerate_push {X} n [] x =
    let same : n ≡ n + 0 = omega arith in
    let at : ℕ → List (ℕ × X) = λ k. (k, x) ∷ [] in
    ap at same
enumerate_push {X} n (y ∷ ys) x =
    let same : (n + 1) + length ys ≡ n + suc (length ys) = omega arith in
    let at : ℕ → List (ℕ × X) = λ k. (n, y) ∷ (enumerate_from (n + 1) ys ++ (k, x) ∷ []) in
    ap (λ (rest : List (ℕ × X)). (n, y) ∷ rest) (enumerate_push (n + 1) ys x) ∙ ap at same

-- what is at an index of a list with one item more
push_cases : {X : Type 0} (xs : List X) (x : X) (i : ℕ) (y : X) → slice_get (xs ++ x ∷ []) i ≡ Some y → (slice_get xs i ≡ Some y) ⊎ ((i ≡ length xs) × (y ≡ x))
push_cases [] x zero y at = inr (refl, cc)
push_cases [] x (suc i) y at = absurd (cc)
push_cases (z ∷ xs) x zero y at = inl at
push_cases (z ∷ xs) x (suc i) y at = elim (push_cases xs x i y at) [
  | inl early ↦ inl early
  | inr last ↦ inr (ap suc last.0, last.1)
]

-- a list with its indices, and one item more
pub enumerate_more : {X : Type 0} (f : ℕ × X → List ℕ) (old : List ℕ) (xs : List X) (k : ℕ) (d : X) → k < length xs → (old ++ flat_map f (take k (enumerate_from 0 xs))) ++ f (k, get_or xs k d) ≡ old ++ flat_map f (take (k + 1) (enumerate_from 0 xs))
enumerate_more {X} f old xs k d within =
    let all = enumerate_from 0 xs in
    let inside : k < length all = omega (arith, within, length-enumerate_from 0 xs) in
    let number : 0 + k ≡ k = omega arith in
    let pair : ℕ → ℕ × X = λ n. (n, get_or xs k d) in
    let item : get_or all k (0, d) ≡ (k, get_or xs k d) = get_or-enumerate_from 0 xs k (0, d) within ∙ ap pair number in
    ap (λ (p : ℕ × X). (old ++ flat_map f (take k all)) ++ f p) (sym item)
    ∙ flat_map_more f old (take k all) (get_or all k (0, d))
    ∙ ap (λ (ps : List (ℕ × X)). old ++ flat_map f ps) (sym (take_more all k (0, d) inside))

-- all of it
pub enumerate_all : {X : Type 0} (f : ℕ × X → List ℕ) (old : List ℕ) (xs : List X) (k : ℕ) → length xs ≤ k → old ++ flat_map f (take k (enumerate_from 0 xs)) ≡ old ++ flat_map f (enumerate_from 0 xs)
enumerate_all {X} f old xs k all = ap (λ (ps : List (ℕ × X)). old ++ flat_map f ps) (take_all k (enumerate_from 0 xs) (omega (arith, all, length-enumerate_from 0 xs)))

-- no cell is looked up yet
pub cells_none : (x : Expanded) (run : List Event) (key : List Value) → AreFirstCells x run key 0 []
cells_none x run key = record { count = refl; each = λ p cell at. absurd (cc) }

-- one cell more
pub cells_push : (x : Expanded) (run : List Event) (key : List Value) (params : ℕ) (cells more : List (Option Value)) (cell : Option Value) → AreFirstCells x run key params cells → IsTableValue x run key params cell → more ≡ cells ++ cell ∷ [] → AreFirstCells x run key (params + 1) more
cells_push x run key params cells more cell old is pushed =
    subst (AreFirstCells x run key (params + 1)) (sym pushed) (record {
      count = omega (arith, length-append cells (cell ∷ []), old.count);
      each = λ p other at. elim (push_cases cells cell p other at) [
        | inl early ↦ old.each p other early
        | inr last ↦ subst (λ (c : Option Value). IsTableValue x run key p c) (sym last.1) (subst (λ (q : ℕ). IsTableValue x run key q cell) (sym (last.0 ∙ old.count)) is)
      ];
    })

-- a row is its word, its number and its cells
pub row_written : (x : Expanded) (n : ℕ) (cells : List (Option Value)) (before start middle after : List ℕ) → start ≡ (before ++ codes "row") ++ 32 ∷ decimal n → middle ≡ start ++ flat_map (λ cell. 32 ∷ cell_field x cell) (enumerate_from 0 cells) → after ≡ middle ++ 10 ∷ [] → after ≡ before ++ row_line x n cells
row_written x n cells before start middle after begins filled ends =
    let fields = map (cell_field x) (enumerate_from 0 cells) in
    let spaced : middle ≡ start ++ spaced_fields fields = filled ∙ ap (λ (ys : List ℕ). start ++ ys) (spaced_map (cell_field x) (enumerate_from 0 cells)) in
    ends
    ∙ ap (λ (ys : List ℕ). ys ++ 10 ∷ []) (spaced ∙ ap (λ (ys : List ℕ). ys ++ spaced_fields fields) begins ∙ append_assoc (before ++ codes "row") (32 ∷ decimal n) (spaced_fields fields))
    ∙ line_spaced before (codes "row") (decimal n ∷ fields)

-- no row is written yet
pub rows_none : (form : RowForm) (x : Expanded) (run : List Event) (text : List ℕ) → AppendsRows form x run [] text text
rows_none form x run text = record { rows = []; are_rows = tt; text = sym (append-nil text) }

-- one row more is written
pub rows_push : (form : RowForm) (x : Expanded) (run : List Event) (keys : List (List Value)) (index : ℕ) (key : List Value) (cells : List (Option Value)) (before middle after : List ℕ) → slice_get keys ((index + 1) - 1) ≡ Some key → AppendsRows form x run (take index keys) before middle → AreCells x run key cells → after ≡ middle ++ form (index + 1, cells) → AppendsRows form x run (take (index + 1) keys) before after
rows_push form x run keys index key cells before middle after at old are text =
    let index_is : (index + 1) - 1 ≡ index = omega arith in
    let here : slice_get keys index ≡ Some key = subst (λ (i : ℕ). slice_get keys i ≡ Some key) index_is at in
    let inside : index < length keys = slice_get_within keys index key here in
    let rows = old.rows in
    let numbered = enumerate_from 1 rows in
    let many : length rows ≡ index = AllZip-long (AreCells x run) (take index keys) rows old.are_rows ∙ length-take-le index keys (omega (arith, inside)) in
    let number : 1 + length rows ≡ index + 1 = omega (arith, many) in
    let last : ℕ → List (ℕ × List (Option Value)) = λ n. (n, cells) ∷ [] in
    record {
      rows = rows ++ cells ∷ [];
      are_rows = paired_push (AreCells x run) keys rows index key cells inside (sym (get_or_from_slice_get keys index key key here)) old.are_rows are;
      text =
          text
          ∙ ap (λ (ys : List ℕ). ys ++ form (index + 1, cells)) old.text
          ∙ flat_map_more form before numbered (index + 1, cells)
          ∙ ap (λ (n : ℕ). before ++ flat_map form (numbered ++ last n)) (sym number)
          ∙ ap (λ (ps : List (ℕ × List (Option Value))). before ++ flat_map form ps) (sym (enumerate_push 1 rows cells));
    }

-- rows as lines
lines_of_rows : (x : Expanded) (run : List Event) (n : ℕ) (keys : List (List Value)) (rows : List (List (Option Value))) → AllZip (AreCells x run) keys rows → AllZip (IsRowLine x run) (enumerate_from n keys) (map (row_form x) (enumerate_from n rows))
lines_of_rows x run n [] [] all = tt
lines_of_rows x run n [] (cells ∷ rows) all = absurd all
lines_of_rows x run n (key ∷ keys) [] all = absurd all
lines_of_rows x run n (key ∷ keys) (cells ∷ rows) all = ((cells, all.0, refl), lines_of_rows x run (n + 1) keys rows all.1)

-- the lines of all keys
pub row_lines : (x : Expanded) (run : List Event) (keys : List (List Value)) (before after : List ℕ) → AppendsRows (row_form x) x run keys before after → (lines : List (List ℕ)) × AllZip (IsRowLine x run) (enumerate_from 1 keys) lines × (after ≡ before ++ concat lines)
row_lines x run keys before after appends =
    let numbered = enumerate_from 1 appends.rows in
    let joined = concat_is (map (row_form x) numbered) ∙ flat_map-map (λ (line : List ℕ). line) (row_form x) numbered in (
      map (row_form x) numbered,
      lines_of_rows x run 1 keys appends.rows appends.are_rows,
      appends.text ∙ ap (λ (ys : List ℕ). before ++ ys) (sym joined),
    )
