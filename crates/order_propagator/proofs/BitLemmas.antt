-- Bits of words, and bits that are set in one row of several.
use Rattle.std.proofs.Common.{◌≡◌, ◌≢◌, inl, inr, ℕ, ◌-◌, ◌*◌, ◌%◌, ◌^◌, ◌<◌, ◌≤◌, min, List, length, get_or, set, ap, sym, ◌∙◌, subst, arith, bit_and}
use Rattle.std.proofs.lemmas.Bool.{cases_eq, cases_lt}
use Rattle.std.proofs.lemmas.List.{get_or-set_other, get_or-set_same, length-set}
use Rattle.std.proofs.lemmas.Nat.Bits.{bit_at-lt, bit_at-trailing_zeros, bit_at-zero, bit_at_and, bit_at_mask_below, bit_at_mask_inside, ones_shl}
use Rattle.std.specs.Int.{bit_at, trailing_zeros, w128}
use Rattle.order_propagator.specs.inner.Bits.{HasNoneFrom, IsLowestFrom, SetsBit, bit}

-- a word that differs from a row in one bit sets that bit in its place
pub sets-bit : (rows : List ℕ) (x y value word : ℕ) → x < length rows → 0 < y → bit_at word (y - 1) ≡ value → ((i : ℕ) → i < 128 → i ≢ y - 1 → bit_at word i ≡ bit_at (get_or rows x 0) i) → SetsBit rows (set rows x word) x y value
sets-bit rows x y value word within some here others = record {
  rows = length-set rows x word;
  here = ap (λ (w : ℕ). bit_at w (y - 1)) (get_or-set_same rows x word 0 within) ∙ here;
  others = λ u v from up_to differ. elim (cases_eq u x) [
    | inr elsewhere ↦ ap (λ (w : ℕ). bit_at w (v - 1)) (get_or-set_other rows x u word 0 elsewhere)
    | inl same ↦
        let other : v - 1 ≢ y - 1 = λ one. (elim differ [
          | inl row ↦ absurd (row same)
          | inr column ↦ absurd (column (let equal : v ≡ y = omega (arith, one, from, some) in equal))
        ]) in
        subst (λ k. bit (set rows x word) k v ≡ bit rows k v) (sym same)
        (ap (λ (w : ℕ). bit_at w (v - 1)) (get_or-set_same rows x word 0 within) ∙ others (v - 1) (omega (arith, up_to, from)) other)
  ];
}

-- the word without its bits below the place
abbrev pub high_bits : ℕ → ℕ → ℕ
high_bits word place = bit_and word ((2 ^ 128 - 1) * 2 ^ place % 2 ^ 128)

high-same : (word place i : ℕ) → place < 128 → place ≤ i → i < 128 → bit_at (high_bits word place) i ≡ bit_at word i
high-same word place i few from_on within =
    let mask : bit_at ((2 ^ 128 - 1) * 2 ^ place % 2 ^ 128) i ≡ 1 = ap (λ (m : ℕ). bit_at m i) (ones_shl 128 place (omega (arith, few))) ∙ bit_at_mask_inside place 128 i from_on within in
    let least : min (bit_at word i) 1 ≡ bit_at word i = omega (arith, bit_at-lt word i) in
    bit_at_and word ((2 ^ 128 - 1) * 2 ^ place % 2 ^ 128) i ∙ ap (min (bit_at word i)) mask ∙ least

low-none : (word place i : ℕ) → place < 128 → i < place → bit_at (high_bits word place) i ≡ 0
low-none word place i few under =
    let mask : bit_at ((2 ^ 128 - 1) * 2 ^ place % 2 ^ 128) i ≡ 0 = ap (λ (m : ℕ). bit_at m i) (ones_shl 128 place (omega (arith, few))) ∙ bit_at_mask_below place 128 i under in
    let least : min (bit_at word i) 0 ≡ 0 = omega arith in
    bit_at_and word ((2 ^ 128 - 1) * 2 ^ place % 2 ^ 128) i ∙ ap (min (bit_at word i)) mask ∙ least

pub none-high : (word place : ℕ) → place < 128 → high_bits word place ≡ 0 → HasNoneFrom word place
none-high word place few none i from_on within = sym (high-same word place i few from_on within) ∙ ap (λ (n : ℕ). bit_at n i) none ∙ bit_at-zero i

pub lowest-high : (word place : ℕ) → place < 128 → 0 < high_bits word place → high_bits word place < 2 ^ 128 → IsLowestFrom word place (trailing_zeros w128 (high_bits word place))
lowest-high word place few some fits =
    let lowest = bit_at-trailing_zeros w128 (high_bits word place) some fits in
    let found : ℕ = trailing_zeros w128 (high_bits word place) in
    let from_on : place ≤ found = elim (cases_lt found place) [
      | inr on ↦ on
      | inl under ↦ absurd (omega (arith, low-none word place found few under, lowest.1))
    ] in
    record {
      from_on = from_on;
      within = lowest.0;
      set = sym (high-same word place found few from_on lowest.0) ∙ lowest.1;
      passed = λ i on under. sym (high-same word place i few on (omega (arith, under, lowest.0))) ∙ lowest.2 i under;
    }
