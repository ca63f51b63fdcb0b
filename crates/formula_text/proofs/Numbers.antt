-- Numbers and literals are printed as words of digits, of which the first may be a minus sign.
use Rattle.std.proofs.Common.{◌≡◌, ℕ, ◌+◌, ◌<◌, ◌≤◌, Bool, true, false, cond, eqb, List, [], ◌∷◌, ◌++◌, map, get_or, inl, inr, refl, subst, sym, ◌∙◌, arith}
use Rattle.std.specs.Int.Digits.{digits_of}
use Rattle.std.specs.List.{All, AllByRecursion, join_with_byte}
use Rattle.std.proofs.lemmas.Bool.{cases_eq, cond-false, false≢true, ne_eqb}
use Rattle.std.proofs.lemmas.Int.Digits.{all_below_base_digits_of, first_digits_of}
use Rattle.std.proofs.lemmas.List.Elements.{All-cons, All-from_recursion, All-head, All-map, All-nil, All-weaker}
use Rattle.clause_core.specs.declared.literal.Lit.{Lit}
use Rattle.dimacs.specs.Dimacs.{clause_words, is_comment, is_word, line_words}
use Rattle.refutation_log.specs.LogText.{pivot_text}
use Rattle.list_base.specs.Numeral.{numeral}
use Rattle.formula_text.proofs.Words.{IsPrinted, words_joined}

-- a word of digits and minus signs
record IsSigned (word : List ℕ) : Type 0 where
  digits : All (λ byte. (45 ≤ byte) × (byte ≤ 57)) word
  some : is_word word ≡ true

-- digits as bytes
glyphs : (ds : List ℕ) → 0 < get_or ds 0 0 → AllByRecursion (λ d. d < 10) ds → IsSigned (map (λ digit. 48 + digit) ds)
glyphs [] first below = absurd (omega arith)
glyphs (d ∷ ds) first below = record {
  digits = All-map (λ byte. (45 ≤ byte) × (byte ≤ 57)) (λ digit. 48 + digit) (d ∷ ds) (All-weaker (λ e. e < 10) (λ e. (45 ≤ 48 + e) × (48 + e ≤ 57)) (λ e small. (omega arith, omega arith)) (d ∷ ds) (All-from_recursion (λ e. e < 10) (d ∷ ds) below));
  some = refl;
}

-- the number 0
zero_word : IsSigned (48 ∷ [])
zero_word = record {
  digits = All-cons (λ byte. (45 ≤ byte) × (byte ≤ 57)) 48 [] (omega arith, omega arith) (All-nil (λ byte. (45 ≤ byte) × (byte ≤ 57)));
  some = refl;
}

number_word : (n : ℕ) → IsSigned (numeral n)
unfolding numeral
number_word n =
    elim (cases_eq n 0) [
      | inl none ↦ subst (λ (k : ℕ). IsSigned (numeral k)) (sym none) zero_word
      | inr other ↦
          subst IsSigned (sym (cond-false (eqb n 0) (48 ∷ []) (map (λ digit. 48 + digit) (digits_of 10 n)) (ne_eqb n 0 other)))
          (glyphs (digits_of 10 n) (first_digits_of 10 n (omega arith) (omega arith)) (all_below_base_digits_of 10 n (omega arith)))
    ]

sign_word : (n : ℕ) (positive : Bool) → IsSigned (cond positive (numeral n) (45 ∷ numeral n))
sign_word n true = number_word n
sign_word n false = record {
  digits = All-cons (λ byte. (45 ≤ byte) × (byte ≤ 57)) 45 (numeral n) (omega arith, omega arith) (number_word n).digits;
  some = refl;
}

-- such a word is a word of its line
signed_printed : (word : List ℕ) → IsSigned word → IsPrinted word
signed_printed word signed = record {
  past = All-weaker (λ byte. (45 ≤ byte) × (byte ≤ 57)) (λ byte. 32 < byte) (λ b within. let low = within.0 in omega arith) word signed.digits;
  some = signed.some;
}

-- a number is a word
pub numeral_printed : (n : ℕ) → IsPrinted (numeral n)
numeral_printed n = signed_printed (numeral n) (number_word n)

-- so is each word of a clause
clause_signed : (clause : List Lit) → AllByRecursion IsSigned (clause_words clause)
clause_signed [] = (zero_word, tt)
clause_signed (l ∷ clause) = (sign_word l.var l.positive, clause_signed clause)

all_printed : (words : List (List ℕ)) → AllByRecursion IsSigned words → AllByRecursion IsPrinted words
all_printed [] all = tt
all_printed (word ∷ words) all = (signed_printed word all.0, all_printed words all.1)

pub clause_printed : (clause : List Lit) → AllByRecursion IsPrinted (clause_words clause)
clause_printed clause = all_printed (clause_words clause) (clause_signed clause)

-- a text that begins with such a word is no comment
begins_no_comment : (word rest : List ℕ) → IsSigned word → is_comment (word ++ rest) ≡ false
begins_no_comment [] rest signed = absurd (false≢true signed.some)
begins_no_comment (b ∷ word) rest signed =
    let first = All-head (λ byte. (45 ≤ byte) × (byte ≤ 57)) b word signed.digits in
    let high = first.1 in
    ne_eqb b 99 (λ e. omega arith)

signed_no_comment : (word : List ℕ) (words : List (List ℕ)) → IsSigned word → is_comment (join_with_byte 32 (word ∷ words)) ≡ false
signed_no_comment [] [] signed = absurd (false≢true signed.some)
signed_no_comment (b ∷ word) [] signed =
    let first = All-head (λ byte. (45 ≤ byte) × (byte ≤ 57)) b word signed.digits in
    let high = first.1 in
    ne_eqb b 99 (λ e. omega arith)
signed_no_comment word (next ∷ words) signed = begins_no_comment word (32 ∷ join_with_byte 32 (next ∷ words)) signed

-- the words of a line of such words
signed_read : (word : List ℕ) (words : List (List ℕ)) → AllByRecursion IsSigned (word ∷ words) → line_words (join_with_byte 32 (word ∷ words)) ≡ word ∷ words
signed_read word words all =
    cond-false (is_comment (join_with_byte 32 (word ∷ words))) [] _ (signed_no_comment word words all.0) ∙ words_joined word words (all_printed (word ∷ words) all)

-- the words of a clause's line are those of the clause
pub clause_read : (clause : List Lit) → line_words (join_with_byte 32 (clause_words clause)) ≡ clause_words clause
clause_read [] = signed_read (48 ∷ []) [] (clause_signed [])
clause_read (l ∷ clause) = signed_read (pivot_text l) (clause_words clause) (clause_signed (l ∷ clause))
