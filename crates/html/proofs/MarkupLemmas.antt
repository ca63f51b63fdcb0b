-- Words and numbers have no marks.
use Rattle.std.proofs.Common.{◌≡◌, ◌==◌, ◌&&◌, ◌||◌, ℕ, Bool, true, false, nat_le, List, [], ◌∷◌, ◌++◌, refl, sym, ap, inl, inr, ◌⊎◌, ◌∙◌, IsTrue, not, arith}
use Rattle.std.specs.Char.{is_ascii_digit}
use Rattle.std.specs.List.{filter, flat_map, list_all, list_any}
use Rattle.std.specs.Str.{bytes_eq}
use Rattle.std.proofs.lemmas.Bool.{cond_both}
use Rattle.std.proofs.lemmas.List.Elements.{filter-append}
use Rattle.list_base.specs.Numeral.{numeral}
use Rattle.list_base.proofs.Numerals.{tests_digits}
use Rattle.html.specs.declared.wording.TheConstants as wording
use Rattle.html.specs.Fragment.{Fragment, Number, Tag, Words, escaped, escaped_byte, fragment_text, as_html}
use Rattle.html.specs.Markup.{entities, is_mark, tag_text}

-- a byte of words is written without marks
no_mark_byte : (b : ℕ) → filter is_mark (escaped_byte b) ≡ []
no_mark_byte b =
    let P : List ℕ → Type 0 = λ text. filter is_mark text ≡ [] in
    cond_both (b == 34) wording.QUOTE.now _ P (λ _. refl) (λ no34.
    cond_both (b == 38) wording.AMPERSAND.now _ P (λ _. refl) (λ no38.
    cond_both (b == 39) wording.APOSTROPHE.now _ P (λ _. refl) (λ no39.
    cond_both (b == 60) wording.LESS.now _ P (λ _. refl) (λ no60.
    cond_both (b == 62) wording.GREATER.now _ P (λ _. refl) (λ no62.
    cond_both ((nat_le 32 b && nat_le b 126) || b == 10) (b ∷ []) wording.UNKNOWN.now P (λ _. simp (no34, no39, no60, no62)) (λ _. refl))))))

-- so are words
no_mark_words : (text : List ℕ) → filter is_mark (escaped text) ≡ []
no_mark_words [] = refl
no_mark_words (b ∷ text) =
    filter-append is_mark (escaped_byte b) (escaped text)
    ∙ ap (λ (marks : List ℕ). marks ++ filter is_mark (escaped text)) (no_mark_byte b)
    ∙ no_mark_words text

-- a digit is no mark
no_mark_digit : (d : ℕ) → is_ascii_digit d ≡ true → is_mark d ≡ false
no_mark_digit d is = grind arith

-- digits have none
no_mark_digits : (ds : List ℕ) → list_all is_ascii_digit ds ≡ true → filter is_mark ds ≡ []
no_mark_digits [] all = refl
no_mark_digits (d ∷ ds) all = simp (no_mark_digit d (and_first (is_ascii_digit d) (list_all is_ascii_digit ds) all), no_mark_digits ds (and_second (is_ascii_digit d) (list_all is_ascii_digit ds) all)) where
  and_first : (a b : Bool) → (a && b) ≡ true → a ≡ true
  and_first true b both = refl
  and_first false b both = both

  and_second : (a b : Bool) → (a && b) ≡ true → b ≡ true
  and_second true b both = both
  and_second false b both = absurd cc

-- a part has the marks of its tag
same_marks : (part : Fragment) → filter is_mark (fragment_text part) ≡ filter is_mark (tag_text part)
same_marks (Tag text) = refl
same_marks (Words text) = no_mark_words text
same_marks (Number n) = no_mark_digits (numeral n) (tests_digits (numeral n) (n, refl))

-- and so have all parts
pub all_marks : (parts : List Fragment) → filter is_mark (as_html parts) ≡ filter is_mark (flat_map tag_text parts)
all_marks [] = refl
all_marks (part ∷ parts) =
    filter-append is_mark (fragment_text part) (as_html parts)
    ∙ ap (λ (marks : List ℕ). marks ++ filter is_mark (as_html parts)) (same_marks part)
    ∙ ap (λ (marks : List ℕ). filter is_mark (tag_text part) ++ marks) (all_marks parts)
    ∙ sym (filter-append is_mark (tag_text part) (flat_map tag_text parts))

-- a byte of words is written as an entity, or as itself
pub byte_shown : (b : ℕ) → IsTrue (list_any (bytes_eq (escaped_byte b)) entities) ⊎ ((escaped_byte b ≡ b ∷ []) × IsTrue (not (is_mark b || b == 38)))
byte_shown b =
    let P : List ℕ → Type 0 = λ text. IsTrue (list_any (bytes_eq text) entities) ⊎ ((text ≡ b ∷ []) × IsTrue (not (is_mark b || b == 38))) in
    cond_both (b == 34) wording.QUOTE.now _ P (λ _. inl refl) (λ no34.
    cond_both (b == 38) wording.AMPERSAND.now _ P (λ _. inl refl) (λ no38.
    cond_both (b == 39) wording.APOSTROPHE.now _ P (λ _. inl refl) (λ no39.
    cond_both (b == 60) wording.LESS.now _ P (λ _. inl refl) (λ no60.
    cond_both (b == 62) wording.GREATER.now _ P (λ _. inl refl) (λ no62.
    cond_both ((nat_le 32 b && nat_le b 126) || b == 10) (b ∷ []) wording.UNKNOWN.now P (λ _. inr (refl, simp (no34, no38, no39, no60, no62))) (λ _. inl refl))))))
