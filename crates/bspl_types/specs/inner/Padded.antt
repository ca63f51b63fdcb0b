-- A list in an array of a fixed size: its items, and blank cells after them.
use Rattle.std.specs.Prelude.{◌≡◌, ℕ, ◌-◌, ◌≤◌, List, ◌++◌, length, take, drop, replicate}
use Rattle.std.proofs.Common.{ap, ◌∙◌, sym, arith, length-take}
use Rattle.std.proofs.lemmas.List.{take-append-drop}

-- the items with blank cells up to the size
abbrev pub padded : {X : Type 0} → ℕ → X → List X → List X
padded room blank items = items ++ replicate (room - length items) blank

-- the first `len` cells hold items, and the rest are blank
pub record IsPadded {X : Type 0} (room : ℕ) (blank : X) (len : ℕ) (cells : List X) : Type 0 where
  pub few : len ≤ room
  pub all : length cells ≡ room
  pub rest : drop len cells ≡ replicate (room - len) blank

-- there are `len` items
pub length_items : {X : Type 0} (room : ℕ) (blank : X) (len : ℕ) (cells : List X)
    → IsPadded room blank len cells → length (take len cells) ≡ len
length_items room blank len cells is_padded =
    grind (arith, length-take, is_padded.few, is_padded.all)

-- the items, padded, are the cells
pub padded_items : {X : Type 0} (room : ℕ) (blank : X) (len : ℕ) (cells : List X)
    → IsPadded room blank len cells → padded room blank (take len cells) ≡ cells
padded_items room blank len cells is_padded =
    ap (λ n. take len cells ++ replicate (room - n) blank)
    (length_items room blank len cells is_padded)
    ∙ ap (λ rest. take len cells ++ rest) (sym is_padded.rest)
    ∙ take-append-drop len cells
