-- A name through a numbered name and a prefix is a name.
use Rattle.std.proofs.Common.{◌≡◌, ℕ, ◌<◌, ◌^◌, true, not, eqb, List, [], ◌∷◌, ◌++◌, length, get_or, inl, inr, refl, sym, ap, subst, ◌∙◌, arith}
use Rattle.std.specs.Prelude.{IsTrue, codes, decimal}
use Rattle.std.specs.Char.{is_ascii_digit}
use Rattle.std.specs.List.{list_all}
use Rattle.std.proofs.lemmas.Bool.{and_parts, cases_Bool, eqb-true}
use Rattle.std.proofs.lemmas.Fmt.{digits_decimal, decimal_nonempty, first_decimal}
use Rattle.std.proofs.lemmas.List.{append_assoc}
use Rattle.std.proofs.lemmas.Str.Parse.{numerals_by_value, tells_all_ascii_digits}
use Rattle.std.specs.Str.{all_ascii_digits}
use Rattle.bspl_types.specs.Name.{is_plain_name, is_positive_number, is_group, is_grouped, is_reserved, is_name}
use Rattle.protocol_paths.specs.Prefix.{IsPrefix, numbered_name}
use Rattle.protocol_paths.proofs.Pieces.{pieces, some_piece, pieces_join, pieces_number, group_made, grouped_join, not_reserved}

-- digits, tested one by one
all_digits : (ds : List ℕ) → all_ascii_digits ds ≡ true → list_all is_ascii_digit ds ≡ true
all_digits [] digits = refl
all_digits (d ∷ ds) digits =
    let both = and_parts (is_ascii_digit d) (all_ascii_digits ds) digits in
    rw (both.0, all_digits ds both.1) refl

positive : (ds : List ℕ) → list_all is_ascii_digit ds ≡ true → 0 < length ds → 48 < get_or ds 0 0 → is_positive_number ds ≡ true
positive [] digits some first = absurd (omega (arith, some))
positive (d ∷ ds) digits some first =
    let both = and_parts (is_ascii_digit d) (list_all is_ascii_digit ds) digits in
    elim (cases_Bool (eqb d 48)) [
      | inl zero_first ↦ let is : d ≡ 48 = eqb-true d 48 zero_first in absurd (omega (arith, is, first))
      | inr other ↦ rw (both.0, other, both.1) refl
    ]

-- the digits of a number
decimal_digits : (k : ℕ) → k < 2 ^ 64 → list_all is_ascii_digit (decimal k) ≡ true
decimal_digits k small = all_digits (decimal k) (digits_decimal (numerals_by_value _ tells_all_ascii_digits) k small)

-- a name, `#`, a number, `.` and a name
named_after : (name text : List ℕ) (k : ℕ) → IsTrue (is_name name) → IsTrue (is_name text) → 0 < k → k < 2 ^ 64 → IsTrue (is_name (name ++ 35 ∷ (decimal k ++ 46 ∷ text)))
unfolding is_name
named_after name text k of_name of_text counted small =
    let digits = decimal_digits k small in
    let number = positive (decimal k) digits (decimal_nonempty k small) (first_decimal k counted small) in
    let first = some_piece text in
    let name_parts = and_parts (is_grouped (pieces name)) (not (is_reserved name)) of_name in
    let text_parts = and_parts (is_grouped (pieces text)) (not (is_reserved text)) of_text in
    let text_grouped : is_grouped (first.0 ∷ first.1) ≡ true = ap is_grouped (sym first.2) ∙ text_parts.0 in
    let plain = and_parts (is_plain_name first.0) (list_all is_group first.1) text_grouped in
    let group = group_made (decimal k) first.0 digits number plain.0 in
    let cut : pieces (name ++ 35 ∷ (decimal k ++ 46 ∷ text)) ≡ pieces name ++ (decimal k ++ 46 ∷ first.0) ∷ first.1 =
    pieces_join name (decimal k ++ 46 ∷ text) ∙ ap (λ parts. pieces name ++ parts) (pieces_number (decimal k) text first.0 first.1 digits first.2) in
    let grouped : is_grouped (pieces (name ++ 35 ∷ (decimal k ++ 46 ∷ text))) ≡ true = ap is_grouped cut ∙ grouped_join (pieces name) first.1 (decimal k ++ 46 ∷ first.0) name_parts.0 group plain.1 in
    rw (grouped, not_reserved name (decimal k ++ 46 ∷ text)) refl

-- the parts of a longer prefix
joined : (prefix name digits text : List ℕ) → (prefix ++ (name ++ codes "#" ++ digits ++ codes ".")) ++ text ≡ prefix ++ (name ++ 35 ∷ (digits ++ 46 ∷ text))
joined prefix name digits text = append_assoc prefix (name ++ codes "#" ++ digits ++ codes ".") text ∙ ap (λ rest. prefix ++ rest) inner
  where
    inner : (name ++ codes "#" ++ digits ++ codes ".") ++ text ≡ name ++ 35 ∷ (digits ++ 46 ∷ text)
    inner = simp append_assoc

-- a prefix through one more reference is a prefix
pub longer_prefix : (prefix name : List ℕ) (k : ℕ) → IsPrefix prefix → IsTrue (is_name name) → 0 < k → k < 2 ^ 64 → IsPrefix (prefix ++ numbered_name name k)
longer_prefix prefix name k of_prefix of_name counted small = record {
  keeps = λ text of_text. subst (λ whole. IsTrue (is_name whole)) (sym (joined prefix name (decimal k) text)) (of_prefix.keeps (name ++ 35 ∷ (decimal k ++ 46 ∷ text)) (named_after name text k of_name of_text counted small));
}

-- the text that was put together
pub grown : (prefix name digits : List ℕ) → (((prefix ++ name) ++ codes "#") ++ digits) ++ codes "." ≡ prefix ++ (name ++ codes "#" ++ digits ++ codes ".")
grown prefix name digits = simp append_assoc
