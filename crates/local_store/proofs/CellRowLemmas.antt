-- Cells and the two lists that they are made of.
use Rattle.std.proofs.Common.{◌≡◌, ℕ, zero, suc, ◌*◌, ◌<◌, ◌≤◌, ◌++◌, ◌⊎◌, inl, inr, Bool, true, false, cond, List, [], ◌∷◌, length, replicate, None, Some, slice_get, slice_set, refl, subst, ap, ◌∙◌, arith}
use Rattle.std.proofs.lemmas.Nat.{mul-le}
use Rattle.std.proofs.lemmas.Option.{none-some, same_Some}
use Rattle.bspl_types.specs.declared.value.Value.{Value}
use Rattle.local_store.specs.inner.Cells.{cells_of}

-- there are as many cells as marks
pub length-cells : (filled : List Bool) (values : List Value) → length (cells_of filled values) ≡ length filled
length-cells [] values = refl
length-cells (f ∷ filled) [] = ap (λ (n : ℕ). suc n) (length-cells filled [])
length-cells (f ∷ filled) (v ∷ values) = ap (λ (n : ℕ). suc n) (length-cells filled values)

-- the cell at an index
pub cell_is : (filled : List Bool) (values : List Value) (i : ℕ) (f : Bool) (v : Value)
    → slice_get filled i ≡ Some f → slice_get values i ≡ Some v
    → slice_get (cells_of filled values) i ≡ Some (cond f (Some v) None)
cell_is [] values i f v has_mark has_value = absurd (none-some f has_mark)
cell_is (g ∷ filled) [] i f v has_mark has_value = absurd (none-some v has_value)
cell_is (g ∷ filled) (w ∷ values) zero f v has_mark has_value =
    ap (λ (b : Bool). Some (cond b (Some w) None)) (same_Some g f has_mark)
    ∙ ap (λ (u : Value). Some (cond f (Some u) None)) (same_Some w v has_value)
cell_is (g ∷ filled) (w ∷ values) (suc i) f v has_mark has_value =
    cell_is filled values i f v has_mark has_value

-- a cell without its mark is empty
pub cell_empty : (filled : List Bool) (values : List Value) (i : ℕ)
    → slice_get filled i ≡ Some false → slice_get (cells_of filled values) i ≡ Some None
cell_empty [] values i has_mark = absurd (none-some false has_mark)
cell_empty (g ∷ filled) [] zero has_mark = refl
cell_empty (g ∷ filled) [] (suc i) has_mark = cell_empty filled [] i has_mark
cell_empty (g ∷ filled) (w ∷ values) zero has_mark =
    ap (λ (b : Bool). Some (cond b (Some w) None)) (same_Some g false has_mark)
cell_empty (g ∷ filled) (w ∷ values) (suc i) has_mark = cell_empty filled values i has_mark

-- a cell is filled
pub cell_filled : (filled : List Bool) (values : List Value) (i : ℕ) (v : Value)
    → i < length values
    → cells_of (slice_set filled i true) (slice_set values i v) ≡ slice_set (cells_of filled values) i (Some v)
cell_filled [] values i v within = refl
cell_filled (g ∷ filled) [] i v within = absurd (omega (arith, within))
cell_filled (g ∷ filled) (w ∷ values) zero v within = refl
cell_filled (g ∷ filled) (w ∷ values) (suc i) v within =
    ap (λ cells. (cond g (Some w) None) ∷ cells) (cell_filled filled values i v (omega (arith, within)))

-- values behind those of the cells change none
pub cells_kept : (filled : List Bool) (values more : List Value) → length filled ≤ length values
    → cells_of filled (values ++ more) ≡ cells_of filled values
cells_kept [] values more within = refl
cells_kept (f ∷ filled) [] more within = absurd (omega (arith, within))
cells_kept (f ∷ filled) (v ∷ values) more within =
    ap (λ cells. (cond f (Some v) None) ∷ cells) (cells_kept filled values more (omega (arith, within)))

-- rows of values behind those of the marks change no cell
pub cells_stay : (filled : List Bool) (values new more : List Value) (width rows value_rows value_width : ℕ)
    → length filled ≡ rows * width → length values ≡ value_rows * value_width → value_width ≡ width → rows ≤ value_rows
    → (new ≡ values) ⊎ (new ≡ values ++ more) → cells_of filled new ≡ cells_of filled values
cells_stay filled values new more width rows value_rows value_width covers value_covers same within either =
    let wide = subst (λ w. length values ≡ value_rows * w) same value_covers in
    let fewer = mul-le rows width value_rows width within (omega arith) in
    elim either [
      | inl stays ↦ ap (cells_of filled) stays
      | inr longer ↦ ap (cells_of filled) longer ∙ cells_kept filled values more (omega (arith, fewer, wide, covers))
    ]

-- marks that say nothing is there add blank cells
pub blank_cells : (count : ℕ) (values : List Value)
    → cells_of (replicate count false) values ≡ replicate count None
blank_cells zero values = refl
blank_cells (suc count) [] = ap (λ cells. None ∷ cells) (blank_cells count [])
blank_cells (suc count) (v ∷ values) = ap (λ cells. None ∷ cells) (blank_cells count values)

pub cells_blank : (count : ℕ) (filled : List Bool) (values : List Value)
    → cells_of (filled ++ replicate count false) values ≡ cells_of filled values ++ replicate count None
cells_blank count [] values = blank_cells count values
cells_blank count (f ∷ filled) [] = ap (λ cells. None ∷ cells) (cells_blank count filled [])
cells_blank count (f ∷ filled) (v ∷ values) =
    ap (λ cells. (cond f (Some v) None) ∷ cells) (cells_blank count filled values)
