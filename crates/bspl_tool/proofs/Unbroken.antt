-- Texts without an LF.
use Rattle.std.proofs.Common.{◌≡◌, ℕ, ◌+◌, zero, suc, ◌%◌, ◌/◌, Bool, false, List, [], ◌∷◌, ◌++◌, eqb, ltb, refl, ◌∙◌, arith}
use Rattle.std.specs.Fmt.{digits, digits_onto, digit_glyph, decimal}
use Rattle.std.specs.List.{list_any}
use Rattle.std.proofs.lemmas.Bool.{cond_both, ne_eqb, or_from}
use Rattle.std.proofs.lemmas.List.Folds.{list_any-append}

-- one of the text's bytes is this one
abbrev pub has_byte : ℕ → List ℕ → Bool
has_byte c text = list_any (λ b. eqb b c) text

-- one is an LF
abbrev pub has_lf : List ℕ → Bool
has_lf text = has_byte 10 text

-- two texts without the byte, one after the other
pub joined_has_none : (c : ℕ) (one other : List ℕ) → has_byte c one ≡ false → has_byte c other ≡ false → has_byte c (one ++ other) ≡ false
joined_has_none c one other none_in_one none_in_other = list_any-append (λ b. eqb b c) one other ∙ or_from (has_byte c one) (has_byte c other) none_in_one none_in_other

-- the digit of a number is no LF
pub digit_is_no_lf : (d : ℕ) → digit_glyph false d ≡ 10 → ⊥
digit_is_no_lf d = cond_both (ltb d 10) (48 + d) (87 + d) (λ g. g ≡ 10 → ⊥) (λ _ is. omega arith) (λ _ is. omega arith)

-- so are all of them
digits_have_no_lf : (k n : ℕ) (after : List ℕ) → has_lf after ≡ false → has_lf (digits_onto k 10 false n after) ≡ false
digits_have_no_lf zero n after none = none
digits_have_no_lf (suc k) n after none =
    let more = digit_glyph false (n % 10) ∷ after in
    let none_more : has_lf more ≡ false = or_from _ (has_lf after) (ne_eqb (digit_glyph false (n % 10)) 10 (digit_is_no_lf (n % 10))) none in
    cond_both (eqb (n / 10) 0) more (digits_onto k 10 false (n / 10) more) (λ ds. has_lf ds ≡ false) (λ _. none_more) (λ _. digits_have_no_lf k (n / 10) more none_more)

-- a number in decimal has no LF
pub decimal_has_no_lf : (n : ℕ) → has_lf (decimal n) ≡ false
unfolding digits
decimal_has_no_lf n = digits_have_no_lf 64 n [] refl
