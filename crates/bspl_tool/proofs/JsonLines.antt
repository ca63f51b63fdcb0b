-- JSON that is written without blanks has no LF.
use Rattle.std.proofs.Common.{◌≡◌, ℕ, suc, ◌+◌, ◌/◌, ◌%◌, ◌==◌, pos, negsuc, Bool, true, false, ◌||◌, cond, List, [], ◌∷◌, ◌++◌, eqb, refl, subst, arith}
use Rattle.std.specs.Prelude.{nat_lt}
use Rattle.std.specs.Char.{digit_char}
use Rattle.std.proofs.lemmas.Bool.{cond_both, false≢true, ltb-false, ne_eqb, or_from}
use Rattle.json.specs.Print.{escape, escape_byte, escape_letter, quoted}
use Rattle.serde_json.specs.Data.{Num, unsigned, negative, float, Data, null, boolean, number, string, array, object, Items, no_items, item, Members, no_members, member}
use Rattle.serde_json.specs.Written.{comma_if, compact_text, items_text, members_text, number_text}
use Rattle.bspl_tool.proofs.Unbroken.{decimal_has_no_lf, has_lf, joined_has_none}

-- the letter of a short escape is no LF
letter_is_no_lf : (b : ℕ) → escape_letter b ≡ 10 → ⊥
letter_is_no_lf b =
    cond_both ((b == 34) || (b == 92)) b _ (λ g. g ≡ 10 → ⊥) (λ own is. false≢true (subst (λ a. ((a == 34) || (a == 92)) ≡ true) is own))
    (λ _. cond_both (b == 8) 98 _ (λ g. g ≡ 10 → ⊥) (λ _ is. omega (arith, is))
    (λ _. cond_both (b == 12) 102 _ (λ g. g ≡ 10 → ⊥) (λ _ is. omega (arith, is))
    (λ _. cond_both (b == 10) 110 _ (λ g. g ≡ 10 → ⊥) (λ _ is. omega (arith, is))
    (λ _. cond_both (b == 13) 114 _ (λ g. g ≡ 10 → ⊥) (λ _ is. omega (arith, is))
    (λ _. cond_both (b == 9) 116 0 (λ g. g ≡ 10 → ⊥) (λ _ is. omega (arith, is)) (λ _ is. omega (arith, is)))))))

-- nor is a digit of a long one
digit_is_no_lf : (d : ℕ) → digit_char d ≡ 10 → ⊥
digit_is_no_lf d = cond_both (nat_lt d 10) (48 + d) (87 + d) (λ g. g ≡ 10 → ⊥) (λ _ is. omega (arith, is)) (λ _ is. omega (arith, is))

-- what stands in a string for a byte
byte_has_no_lf : (b : ℕ) → has_lf (escape_byte b) ≡ false
unfolding escape_byte
byte_has_no_lf b =
    let long = 92 ∷ 117 ∷ 48 ∷ 48 ∷ digit_char (b / 16) ∷ digit_char (b % 16) ∷ [] in
    cond_both (nat_lt 0 (escape_letter b)) (92 ∷ escape_letter b ∷ []) (cond (nat_lt b 32) long (b ∷ [])) (λ text. has_lf text ≡ false)
    (λ _. or_from (eqb (escape_letter b) 10) false (ne_eqb (escape_letter b) 10 (letter_is_no_lf b)) refl)
    (λ _. cond_both (nat_lt b 32) long (b ∷ []) (λ text. has_lf text ≡ false)
    (λ _. or_from (eqb (digit_char (b / 16)) 10) _ (ne_eqb (digit_char (b / 16)) 10 (digit_is_no_lf (b / 16))) (or_from (eqb (digit_char (b % 16)) 10) false (ne_eqb (digit_char (b % 16)) 10 (digit_is_no_lf (b % 16))) refl))
    (λ high. or_from (eqb b 10) false (ne_eqb b 10 (λ is. (let above = ltb-false b 32 high in omega (arith, above, is)))) refl))

-- so it is with all of its bytes
escape_has_no_lf : (text : List ℕ) → has_lf (escape text) ≡ false
escape_has_no_lf [] = refl
escape_has_no_lf (b ∷ text) = joined_has_none 10 (escape_byte b) (escape text) (byte_has_no_lf b) (escape_has_no_lf text)

-- and the string
quoted_has_no_lf : (text : List ℕ) → has_lf (quoted text) ≡ false
quoted_has_no_lf text = joined_has_none 10 (escape text) (34 ∷ []) (escape_has_no_lf text) refl

-- a number
number_has_no_lf : (n : Num) → has_lf (number_text n) ≡ false
number_has_no_lf (unsigned n) = decimal_has_no_lf n
number_has_no_lf (negative (pos n)) = decimal_has_no_lf n
number_has_no_lf (negative (negsuc n)) = decimal_has_no_lf (suc n)
number_has_no_lf (float x) = refl

-- the comma before what is not first
comma_has_no_lf : (later : Bool) → has_lf (comma_if later) ≡ false
comma_has_no_lf true = refl
comma_has_no_lf false = refl

-- a value, its items and its members
mutual
  pub json_has_no_lf : (d : Data) → has_lf (compact_text d) ≡ false
  json_has_no_lf null = refl
  json_has_no_lf (boolean true) = refl
  json_has_no_lf (boolean false) = refl
  json_has_no_lf (number n) = number_has_no_lf n
  json_has_no_lf (string text) = quoted_has_no_lf text
  json_has_no_lf (array items) = items_have_no_lf false items
  json_has_no_lf (object members) = members_have_no_lf false members

  items_have_no_lf : (later : Bool) (items : Items) → has_lf (items_text later items) ≡ false
  items_have_no_lf later no_items = refl
  items_have_no_lf later (item d items) =
      joined_has_none 10 (comma_if later) (compact_text d ++ items_text true items) (comma_has_no_lf later) (joined_has_none 10 (compact_text d) (items_text true items) (json_has_no_lf d) (items_have_no_lf true items))

  members_have_no_lf : (later : Bool) (members : Members) → has_lf (members_text later members) ≡ false
  members_have_no_lf later no_members = refl
  members_have_no_lf later (member name d members) =
      joined_has_none 10 (comma_if later) (quoted name ++ 58 ∷ (compact_text d ++ members_text true members)) (comma_has_no_lf later)
      (joined_has_none 10 (quoted name) (58 ∷ (compact_text d ++ members_text true members)) (quoted_has_no_lf name) (joined_has_none 10 (compact_text d) (members_text true members) (json_has_no_lf d) (members_have_no_lf true members)))
