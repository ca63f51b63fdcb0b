-- Numerals: their digits, their value, and which texts of digits they are.
use Rattle.std.proofs.Common.{rules, decimal, true, All, ◌^◌, ◌≡◌, ℕ, zero, suc, ◌+◌, ◌*◌, ◌-◌, ◌/◌, ◌%◌, ◌<◌, ◌≤◌, List, [], ◌∷◌, ◌++◌, length, get_or, take, map, refl, sym, ap, subst, ◌∙◌, inl, inr, add-one, min, arith}
use Rattle.std.specs.Char.{digit_value, is_ascii_digit}
use Rattle.std.specs.List.{list_all}
use Rattle.std.specs.Int.Digits.{digits_of}
use Rattle.std.specs.Str.Parse.{AllDigits, digits_value}
use Rattle.std.proofs.lemmas.Bool.{cases_eq, cases_lt, cond-false, ne_eqb}
use Rattle.std.proofs.lemmas.List.{map-append, length_push, get_or_append_left, take_more, take_all, get_or_default}
use Rattle.std.proofs.lemmas.Int.Digits.{digits_of_step, digits_value_push, digits_value_more, digits_push}
use Rattle.std.proofs.lemmas.Str.{digit_value_digit}
use Rattle.std.proofs.lemmas.Str.Parse.{IsDigitsTest, IsNumeralModel, digit_at, numerals_by_value}
use Rattle.std.proofs.lemmas.Fmt.{decimal_digit, decimal-digits_of}
use Rattle.list_base.specs.Numeral.{IsNumeral, numeral}

-- each byte is a decimal digit
abbrev pub AreDigits : List ℕ → Type 0
AreDigits bytes = All (λ byte. (48 ≤ byte) × (byte ≤ 57)) bytes

-- the test of each digit
tells : IsDigitsTest (λ ds. list_all is_ascii_digit ds ≡ true)
tells = search rules

numeral_positive : (n : ℕ) → 0 < n → numeral n ≡ map (λ digit. 48 + digit) (digits_of 10 n)
unfolding numeral
numeral_positive n positive = cond-false _ _ _ (ne_eqb n 0 (λ e. omega arith))

pub numeral_digit : (n : ℕ) → n < 10 → numeral n ≡ (48 + n) ∷ []
unfolding numeral
numeral_digit n small =
    elim (cases_eq n 0) [
      | inl e ↦ rw e refl
      | inr ne ↦
          let none : n / 10 ≡ 0 = omega arith in
          let last : n % 10 ≡ n = omega arith in
          let one : digits_of 10 n ≡ n ∷ [] = digits_of_step 10 n (omega arith) (omega arith) ∙ ap (λ q. digits_of 10 q ++ n % 10 ∷ []) none ∙ ap (λ d. d ∷ []) last in
          numeral_positive n (omega arith) ∙ ap (map (λ digit. 48 + digit)) one
    ]

pub numeral_more : (n : ℕ) → 10 ≤ n → numeral n ≡ numeral (n / 10) ++ (48 + n % 10) ∷ []
numeral_more n big =
    let parts = ap (map (λ digit. 48 + digit)) (digits_of_step 10 n (omega arith) (omega arith)) in
    numeral_positive n (omega arith) ∙ parts ∙ map-append _ (digits_of 10 (n / 10)) (n % 10 ∷ [])
    ∙ ap (λ ds. ds ++ (48 + n % 10) ∷ []) (sym (numeral_positive (n / 10) (omega arith)))

-- what is known of the numeral of n
pub record IsNumeralOf (n : ℕ) (ds : List ℕ) : Type 0 where
  pub digits : AllDigits 10 ds
  pub some : 0 < length ds
  pub first : 0 < n → 48 < get_or ds 0 0
  pub only : n ≡ 0 → length ds ≡ 1
  pub value : digits_value 10 ds ≡ n

one_digit : (n : ℕ) → n < 10 → IsNumeralOf n ((48 + n) ∷ [])
one_digit n small =
    let worth : digit_value (48 + n) ≡ n = omega (arith, digit_value_digit (48 + n) (omega arith, omega arith)) in
    record {
      digits = (omega arith, tt);
      some = omega arith;
      first = λ positive. omega arith;
      only = λ _. refl;
      value = omega arith;
    }

more_digits : (n : ℕ) (ds : List ℕ) → 10 ≤ n → IsNumeralOf (n / 10) ds → IsNumeralOf n (ds ++ (48 + n % 10) ∷ [])
more_digits n ds big front =
    let worth : digit_value (48 + n % 10) ≡ n % 10 = omega (arith, digit_value_digit (48 + n % 10) (omega arith, omega arith)) in
    record {
      digits = digits_push 10 ds (48 + n % 10) front.digits (omega arith);
      some = omega (arith, length_push ds (48 + n % 10));
      first = λ _. omega (arith, get_or_append_left ds ((48 + n % 10) ∷ []) 0 0 front.some, front.first (omega arith));
      only = λ zero_is. absurd (omega arith);
      value = omega (arith, digits_value_push 10 ds (48 + n % 10), front.value);
    }

within : (fuel n : ℕ) → n ≤ fuel → IsNumeralOf n (numeral n)
within zero n le = rw (numeral_digit n (omega arith)) (one_digit n (omega arith))
within (suc fuel) n le =
    elim (cases_lt n 10) [
      | inl small ↦ rw (numeral_digit n small) (one_digit n small)
      | inr big ↦ rw (numeral_more n big) (more_digits n (numeral (n / 10)) big (within fuel (n / 10) (omega arith)))
    ]

pub numeral_is : (n : ℕ) → IsNumeralOf n (numeral n)
numeral_is n = within n n (omega arith)

pub same_from_numeral : (m n : ℕ) → numeral m ≡ numeral n → m ≡ n
same_from_numeral m n e = sym (numeral_is m).value ∙ ap (digits_value 10) e ∙ (numeral_is n).value

-- a digit more at the end
spells_more : (ds : List ℕ) (v d : ℕ) → 0 < v → numeral v ≡ ds → 48 ≤ d → d ≤ 57 → numeral (v * 10 + (d - 48)) ≡ ds ++ d ∷ []
spells_more ds v d positive e low high =
    let n = v * 10 + (d - 48) in
    let front : n / 10 ≡ v = omega arith in
    let last : 48 + n % 10 ≡ d = omega arith in
    numeral_more n (omega arith) ∙ ap (λ (q : ℕ). numeral q ++ (48 + n % 10) ∷ []) front ∙ ap (λ (c : ℕ). numeral v ++ c ∷ []) last ∙ ap (λ (xs : List ℕ). xs ++ d ∷ []) e

-- the digits read so far, of which the first is not 0, spell their value
front_spells : (ds : List ℕ) (k : ℕ) → AllDigits 10 ds → 48 < get_or ds 0 0 → k < length ds
    → (0 < digits_value 10 (take (k + 1) ds)) × (numeral (digits_value 10 (take (k + 1) ds)) ≡ take (k + 1) ds)
front_spells ds zero digits first short =
    let range = digit_at ds 0 digits short in
    let worth = digit_value_digit (get_or ds 0 0) range in
    let value : digits_value 10 (take 1 ds) ≡ get_or ds 0 0 - 48 = omega (arith, digits_value_more 10 ds 0 short) in
    let back : 48 + (get_or ds 0 0 - 48) ≡ get_or ds 0 0 = omega arith in
    let front : take 1 ds ≡ get_or ds 0 0 ∷ [] = take_more ds 0 0 short in
    (omega arith, ap numeral value ∙ numeral_digit (get_or ds 0 0 - 48) (omega arith) ∙ ap (λ (c : ℕ). c ∷ []) back ∙ sym front)
front_spells ds (suc k) digits first short =
    let before = front_spells ds k digits first (omega arith) in
    let range = digit_at ds (k + 1) digits (omega arith) in
    let d = get_or ds (k + 1) 0 in
    let v = digits_value 10 (take (k + 1) ds) in
    let worth = digit_value_digit d range in
    let value : digits_value 10 (take (k + 1 + 1) ds) ≡ v * 10 + (d - 48) = omega (arith, digits_value_more 10 ds (k + 1) (omega arith)) in
    let front : take (k + 1 + 1) ds ≡ take (k + 1) ds ++ d ∷ [] = take_more ds (k + 1) 0 (omega arith) in
    let spelled = ap numeral value ∙ spells_more (take (k + 1) ds) v d before.0 before.1 range.0 range.1 ∙ sym front in
    let positive : 0 < digits_value 10 (take (k + 1 + 1) ds) = omega (arith, before.0) in
    let Spells : ℕ → Type 0 = λ j. (0 < digits_value 10 (take (j + 1) ds)) × (numeral (digits_value 10 (take (j + 1) ds)) ≡ take (j + 1) ds) in
    subst Spells (add-one k) (positive, spelled)

-- what a text must meet to be a numeral
pub record IsPlain (ds : List ℕ) : Type 0 where
  pub digits : AllDigits 10 ds
  pub some : 0 < length ds
  pub first : get_or ds 0 0 ≡ 48 → length ds ≡ 1

pub plain_spells : (ds : List ℕ) → IsPlain ds → numeral (digits_value 10 ds) ≡ ds
plain_spells ds plain =
    let range = digit_at ds 0 plain.digits plain.some in
    elim (cases_eq (get_or ds 0 0) 48) [
      | inl zero_first ↦
          let one : take 1 ds ≡ ds = take_all 1 ds (omega (arith, plain.first zero_first)) in
          let front : take 1 ds ≡ 48 ∷ [] = take_more ds 0 0 plain.some ∙ ap (λ (c : ℕ). c ∷ []) zero_first in
          let is : ds ≡ 48 ∷ [] = sym one ∙ front in
          subst (λ (xs : List ℕ). numeral (digits_value 10 xs) ≡ xs) (sym is) (numeral_digit 0 (omega arith))
      | inr other ↦
          let k = length ds - 1 in
          let all : take (k + 1) ds ≡ ds = take_all (k + 1) ds (omega arith) in
          subst (λ (xs : List ℕ). numeral (digits_value 10 xs) ≡ xs) all (front_spells ds k plain.digits (omega (arith, range.0, other)) (omega (arith, plain.some))).1
    ]

pub numeral_plain : (ds : List ℕ) (n : ℕ) → ds ≡ numeral n → IsPlain ds
numeral_plain ds n e =
    let is = numeral_is n in
    subst IsPlain (sym e) (record {
      digits = is.digits;
      some = is.some;
      first = λ zero_first. elim (cases_eq n 0) [ inl none ↦ is.only none | inr other ↦ absurd (omega (arith, is.first (omega arith))) ];
    })

-- the test and the value of digits are the library's
pub digits : IsNumeralModel (λ ds. list_all is_ascii_digit ds ≡ true) (digits_value 10)
digits = numerals_by_value _ tells

pub is_spelled : (ds : List ℕ) → list_all is_ascii_digit ds ≡ true → 0 < length ds → (get_or ds 0 0 ≡ 48 → length ds ≡ 1) → IsNumeral ds
is_spelled ds tested some first =
    (digits_value 10 ds, sym (plain_spells ds (record { digits = digits.to ds tested; some = some; first = first })))

pub has_digits : (ds : List ℕ) → IsNumeral ds → AreDigits ds
has_digits ds spelled = λ k d short.
    let at = digit_at ds k (numeral_plain ds spelled.0 spelled.1).digits short in
    subst (λ (c : ℕ). (48 ≤ c) × (c ≤ 57)) (get_or_default ds k 0 d short) at

pub tests_digits : (ds : List ℕ) → IsNumeral ds → list_all is_ascii_digit ds ≡ true
tests_digits ds spelled = digits.from ds (numeral_plain ds spelled.0 spelled.1).digits

pub value_is : (ds : List ℕ) (n : ℕ) → ds ≡ numeral n → digits_value 10 ds ≡ n
value_is ds n e = ap (digits_value 10) e ∙ (numeral_is n).value

-- one digit more of a value that stops at a limit
pub value_stops : (v w d most : ℕ) → v ≡ min w most → min (v * 10 + d) most ≡ min (w * 10 + d) most
value_stops v w d most e = omega arith

-- up to 64 bits, a numeral is what the library writes
pub numeral_is_decimal : (n : ℕ) → n < 2 ^ 64 → numeral n ≡ decimal n
unfolding numeral
numeral_is_decimal n small =
    elim (cases_eq n 0) [
      | inl none ↦ rw none (sym (decimal_digit 0 (omega arith)))
      | inr some ↦ numeral_positive n (omega arith) ∙ sym (decimal-digits_of n (omega arith) small)
    ]
