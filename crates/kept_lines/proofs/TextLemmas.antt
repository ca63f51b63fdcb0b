-- The text of bytes that follow one another.
use Rattle.std.proofs.Common.{◌≡◌, ◌==◌, ℕ, List, [], ◌∷◌, ◌++◌, Bool, true, false, not, ◌||◌, ◌+◌, ◌<◌, ◌≤◌, cond, drop, length, take, refl, sym, ap, subst, ◌∙◌, inl, inr, append_assoc, append-nil, length-take, take_all, arith}
use Rattle.std.specs.Prelude.{◌⊎◌, if◌then◌else◌, slice_index_or as get_or}
use Rattle.std.specs.List.{prefix_len}
use Rattle.std.proofs.lemmas.List.{drop_more, take_more}
use Rattle.std.proofs.lemmas.List.Folds.{list_any-append}
use Rattle.std.proofs.lemmas.List.Sums.{take_while-cons}
use Rattle.std.proofs.lemmas.Bool.{cases_Bool, cases_eq, cond-true, cond-false, eq-eqb, ne_eqb}
use Rattle.kept_lines.specs.Text.{AreTextLines, before_zero, has_lf, image_text, whole_lines}

-- a 0 ends the text
pub zero_ends : (byte : ℕ) (bytes : List ℕ) → byte ≡ 0 → before_zero (byte ∷ bytes) ≡ []
zero_ends byte bytes is_zero = rw is_zero refl

-- another byte does not
pub other_stays : (byte : ℕ) (bytes : List ℕ) → (byte ≡ 0 → ⊥)
    → before_zero (byte ∷ bytes) ≡ byte ∷ before_zero bytes
other_stays byte bytes is_other =
    take_while-cons (λ b. not (b == 0)) byte bytes
    ∙ cond-true (not (byte == 0)) (byte ∷ before_zero bytes) [] (ap not (ne_eqb byte 0 is_other))

-- lists that begin alike go on alike
tails : (x : ℕ) (xs ys : List ℕ) → x ∷ xs ≡ x ∷ ys → xs ≡ ys
tails x xs ys same = cc

-- an empty list is none that has a byte
not_empty : (x : ℕ) (xs : List ℕ) → [] ≡ x ∷ xs → ⊥
not_empty x xs same = cc

-- bytes without a 0 stay before others
pub before_zero_joins : (kept rest : List ℕ) → before_zero kept ≡ kept
    → before_zero (kept ++ rest) ≡ kept ++ before_zero rest
before_zero_joins [] rest same = refl
before_zero_joins (byte ∷ kept) rest same =
    (elim (cases_eq byte 0) as (λ _. before_zero (byte ∷ (kept ++ rest)) ≡ byte ∷ (kept ++ before_zero rest)) [
      | inl is_zero ↦ absurd (not_empty byte kept (sym (zero_ends byte kept is_zero) ∙ same))
      | inr is_other ↦
          let more = tails byte (before_zero kept) kept (sym (other_stays byte kept is_other) ∙ same) in
          other_stays byte (kept ++ rest) is_other
          ∙ ap (λ (bytes : List ℕ). byte ∷ bytes) (before_zero_joins kept rest more)
    ])

-- where an LF is to come, a byte is in a whole line
lf_comes : (byte : ℕ) (bytes : List ℕ) → has_lf (byte ∷ bytes) ≡ true
    → whole_lines (byte ∷ bytes) ≡ byte ∷ whole_lines bytes
lf_comes byte bytes comes = cond-true (has_lf (byte ∷ bytes)) (byte ∷ whole_lines bytes) [] comes

-- elsewhere it is not
no_lf_comes : (byte : ℕ) (bytes : List ℕ) → has_lf (byte ∷ bytes) ≡ false
    → whole_lines (byte ∷ bytes) ≡ []
no_lf_comes byte bytes none = cond-false (has_lf (byte ∷ bytes)) (byte ∷ whole_lines bytes) [] none

-- an LF that comes in the first bytes comes
lf_in_front : (bytes rest : List ℕ) → has_lf bytes ≡ true → has_lf (bytes ++ rest) ≡ true
lf_in_front bytes rest comes =
    list_any-append (λ byte. byte == 10) bytes rest ∙ ap (λ b. b || has_lf rest) comes

-- whole lines stay before others
pub whole_lines_join : (kept rest : List ℕ) → whole_lines kept ≡ kept
    → whole_lines (kept ++ rest) ≡ kept ++ whole_lines rest
whole_lines_join [] rest same = refl
whole_lines_join (byte ∷ kept) rest same =
    (elim (cases_Bool (has_lf (byte ∷ kept))) as (λ _. whole_lines (byte ∷ (kept ++ rest)) ≡ byte ∷ (kept ++ whole_lines rest)) [
      | inl comes ↦
          let more = tails byte (whole_lines kept) kept (sym (lf_comes byte kept comes) ∙ same) in
          lf_comes byte (kept ++ rest) (lf_in_front (byte ∷ kept) rest comes)
          ∙ ap (λ (bytes : List ℕ). byte ∷ bytes) (whole_lines_join kept rest more)
      | inr none ↦ absurd (not_empty byte kept (sym (no_lf_comes byte kept none) ∙ same))
    ])

-- whole lines are no more than the bytes that they are of
whole_lines_fit : (bytes : List ℕ) → length (whole_lines bytes) ≤ length bytes
whole_lines_fit [] = omega arith
whole_lines_fit (byte ∷ bytes) =
    (elim (cases_Bool (has_lf (byte ∷ bytes))) as (λ _. length (whole_lines (byte ∷ bytes)) ≤ length (byte ∷ bytes)) [
      | inl comes ↦
          let fit = whole_lines_fit bytes in
          rw (lf_comes byte bytes comes) (omega (arith, fit))
      | inr none ↦ rw (no_lf_comes byte bytes none) (omega arith)
    ])

-- text has no 0
pub text_has_no_zero : (bytes : List ℕ) → AreTextLines bytes → before_zero bytes ≡ bytes
text_has_no_zero bytes are =
    let count = prefix_len (λ byte. not (byte == 0)) bytes in
    let fit = whole_lines_fit (before_zero bytes) in
    let same : length (image_text bytes) ≡ length bytes = ap (λ (b : List ℕ). length b) are in
    let cut = length-take count bytes in
    take_all count bytes (omega (arith, fit, same, cut))

-- text is whole lines
pub text_is_whole : (bytes : List ℕ) → AreTextLines bytes → whole_lines bytes ≡ bytes
text_is_whole bytes are =
    ap (λ (b : List ℕ). whole_lines b) (sym (text_has_no_zero bytes are)) ∙ are

-- text stays before what follows it
pub text_joins : (kept rest : List ℕ) → AreTextLines kept
    → image_text (kept ++ rest) ≡ kept ++ image_text rest
text_joins kept rest are =
    ap (λ (b : List ℕ). whole_lines b) (before_zero_joins kept rest (text_has_no_zero kept are))
    ∙ whole_lines_join kept (before_zero rest) (text_is_whole kept are)

-- what comes before the first 0 has none
no_zero_again : (bytes : List ℕ) → before_zero (before_zero bytes) ≡ before_zero bytes
no_zero_again [] = refl
no_zero_again (byte ∷ bytes) =
    (elim (cases_eq byte 0) as (λ _. before_zero (before_zero (byte ∷ bytes)) ≡ before_zero (byte ∷ bytes)) [
      | inl is_zero ↦
          let none = zero_ends byte bytes is_zero in
          ap (λ (b : List ℕ). before_zero b) none ∙ sym none
      | inr is_other ↦
          let stays = other_stays byte bytes is_other in
          ap (λ (b : List ℕ). before_zero b) stays
          ∙ other_stays byte (before_zero bytes) is_other
          ∙ ap (λ (b : List ℕ). byte ∷ b) (no_zero_again bytes)
          ∙ sym stays
    ])

-- the whole lines have an LF if the bytes have one
lf_stays : (bytes : List ℕ) → has_lf (whole_lines bytes) ≡ has_lf bytes
lf_stays [] = refl
lf_stays (byte ∷ bytes) =
    (elim (cases_Bool (has_lf (byte ∷ bytes))) as (λ _. has_lf (whole_lines (byte ∷ bytes)) ≡ has_lf (byte ∷ bytes)) [
      | inl comes ↦
          ap (λ (b : List ℕ). has_lf b) (lf_comes byte bytes comes)
          ∙ ap (λ b. (byte == 10) || b) (lf_stays bytes)
      | inr none ↦ ap (λ (b : List ℕ). has_lf b) (no_lf_comes byte bytes none) ∙ sym none
    ])

-- whole lines are whole
whole_again : (bytes : List ℕ) → whole_lines (whole_lines bytes) ≡ whole_lines bytes
whole_again [] = refl
whole_again (byte ∷ bytes) =
    (elim (cases_Bool (has_lf (byte ∷ bytes))) as (λ _. whole_lines (whole_lines (byte ∷ bytes)) ≡ whole_lines (byte ∷ bytes)) [
      | inl comes ↦
          let here = lf_comes byte bytes comes in
          ap (λ (b : List ℕ). whole_lines b) here
          ∙ lf_comes byte (whole_lines bytes) (ap (λ b. (byte == 10) || b) (lf_stays bytes) ∙ comes)
          ∙ ap (λ (b : List ℕ). byte ∷ b) (whole_again bytes)
          ∙ sym here
      | inr none ↦
          let here = no_lf_comes byte bytes none in
          ap (λ (b : List ℕ). whole_lines b) here ∙ sym here
    ])

-- a byte before bytes without a 0 adds none, if it is before bytes without one
no_zero_more : (byte : ℕ) (bytes lines : List ℕ) → before_zero (byte ∷ bytes) ≡ byte ∷ bytes
    → (before_zero bytes ≡ bytes → before_zero lines ≡ lines)
    → before_zero (byte ∷ lines) ≡ byte ∷ lines
no_zero_more byte bytes lines same more =
    (elim (cases_eq byte 0) as (λ _. before_zero (byte ∷ lines) ≡ byte ∷ lines) [
      | inl is_zero ↦ absurd (not_empty byte bytes (sym (zero_ends byte bytes is_zero) ∙ same))
      | inr is_other ↦
          let rest = tails byte (before_zero bytes) bytes (sym (other_stays byte bytes is_other) ∙ same) in
          other_stays byte lines is_other ∙ ap (λ (b : List ℕ). byte ∷ b) (more rest)
    ])

-- the whole lines of bytes without a 0 have none
no_zero_in_lines : (bytes : List ℕ) → before_zero bytes ≡ bytes
    → before_zero (whole_lines bytes) ≡ whole_lines bytes
no_zero_in_lines [] same = refl
no_zero_in_lines (byte ∷ bytes) same =
    (elim (cases_Bool (has_lf (byte ∷ bytes))) as (λ _. before_zero (whole_lines (byte ∷ bytes)) ≡ whole_lines (byte ∷ bytes)) [
      | inl comes ↦
          let here = lf_comes byte bytes comes in
          ap (λ (b : List ℕ). before_zero b) here
          ∙ no_zero_more byte bytes (whole_lines bytes) same (λ rest. no_zero_in_lines bytes rest)
          ∙ sym here
      | inr none ↦
          let here = no_lf_comes byte bytes none in
          ap (λ (b : List ℕ). before_zero b) here ∙ sym here
    ])

-- the text of a file is text
text_again : (image : List ℕ) → AreTextLines (image_text image)
text_again image =
    ap (λ (b : List ℕ). whole_lines b) (no_zero_in_lines (before_zero image) (no_zero_again image))
    ∙ whole_again (before_zero image)

-- so are the first bytes of it that are its text
pub first_bytes_are_text : (image : List ℕ) (len : ℕ) → take len image ≡ image_text image
    → AreTextLines (take len image)
first_bytes_are_text image len is_text =
    let P : List ℕ → Type 0 = λ bytes. AreTextLines bytes in
    subst P (sym is_text) (text_again image)

-- an LF at the end makes all of the bytes whole lines
lf_at_end : (bytes : List ℕ) → whole_lines (bytes ++ 10 ∷ []) ≡ bytes ++ 10 ∷ []
lf_at_end [] = refl
lf_at_end (byte ∷ bytes) =
    let comes : has_lf (bytes ++ 10 ∷ []) ≡ true =
    list_any-append (λ b. b == 10) bytes (10 ∷ []) ∙ or_true (has_lf bytes) in
    lf_comes byte (bytes ++ 10 ∷ []) (ap (λ b. (byte == 10) || b) comes ∙ or_true (byte == 10))
    ∙ ap (λ (more : List ℕ). byte ∷ more) (lf_at_end bytes)
  where
    or_true : (b : Bool) → (b || true) ≡ true
    or_true true = refl
    or_true false = refl

-- no other byte at the end adds to them
other_at_end : (bytes : List ℕ) (last : ℕ) → (last ≡ 10 → ⊥)
    → whole_lines (bytes ++ last ∷ []) ≡ whole_lines bytes
other_at_end [] last is_other =
    no_lf_comes last [] (ap (λ b. b || false) (ne_eqb last 10 is_other))
other_at_end (byte ∷ bytes) last is_other =
    let same : has_lf (bytes ++ last ∷ []) ≡ has_lf bytes =
    list_any-append (λ b. b == 10) bytes (last ∷ []) ∙ ap (λ b. has_lf bytes || (b || false)) (ne_eqb last 10 is_other) ∙ or_false (has_lf bytes) in
    ap (λ b. cond ((byte == 10) || b) (byte ∷ whole_lines (bytes ++ last ∷ [])) []) same
    ∙ ap (λ (lines : List ℕ). cond (has_lf (byte ∷ bytes)) (byte ∷ lines) []) (other_at_end bytes last is_other)
  where
    or_false : (b : Bool) → (b || (false || false)) ≡ b
    or_false true = refl
    or_false false = refl

module _ (image : List ℕ) (index : ℕ) (within : index < length image) where
  one_more : take (index + 1) image ≡ take index image ++ get_or image index 0 ∷ []
  one_more = take_more image index 0 within

  -- up to an LF all is whole lines
  pub whole_at_lf : get_or image index 0 ≡ 10
      → take (index + 1) image ≡ whole_lines (take (index + 1) image)
  whole_at_lf is_lf =
      let to_lf = one_more ∙ ap (λ b. take index image ++ b ∷ []) is_lf in
      to_lf ∙ sym (ap (λ (b : List ℕ). whole_lines b) to_lf ∙ lf_at_end (take index image))

  -- up to any other byte the whole lines are as before
  pub whole_at_other : (len : ℕ) → (get_or image index 0 ≡ 10 → ⊥)
      → take len image ≡ whole_lines (take index image)
      → take len image ≡ whole_lines (take (index + 1) image)
  whole_at_other len is_other lines =
      lines
      ∙ sym (ap (λ (b : List ℕ). whole_lines b) one_more ∙ other_at_end (take index image) (get_or image index 0) is_other)

  -- a byte that is not 0 is before the first 0
  pub before_at_other : (get_or image index 0 ≡ 0 → ⊥)
      → before_zero image ≡ take index image ++ before_zero (drop index image)
      → before_zero image ≡ take (index + 1) image ++ before_zero (drop (index + 1) image)
  before_at_other is_other before =
      let next = get_or image index 0 in
      let rest = drop (index + 1) image in
      before
      ∙ ap (λ (b : List ℕ). take index image ++ before_zero b) (drop_more image index 0 within)
      ∙ ap (λ (b : List ℕ). take index image ++ b) (other_stays next rest is_other)
      ∙ sym (append_assoc (take index image) (next ∷ []) (before_zero rest))
      ∙ ap (λ (b : List ℕ). b ++ before_zero rest) (sym one_more)

  -- a 0 ends the text
  pub before_at_zero : get_or image index 0 ≡ 0
      → before_zero image ≡ take index image ++ before_zero (drop index image)
      → before_zero image ≡ take index image
  before_at_zero is_zero before =
      before
      ∙ ap (λ (b : List ℕ). take index image ++ before_zero b) (drop_more image index 0 within)
      ∙ ap (λ (b : List ℕ). take index image ++ b) (zero_ends (get_or image index 0) (drop (index + 1) image) is_zero)
      ∙ append-nil (take index image)
