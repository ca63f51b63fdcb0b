-- What is found to be skipped at the start is a gap, or a comment up to the end.
use Rattle.std.proofs.Common.{◌≡◌, ℕ, suc, ◌+◌, ◌<◌, ◌≤◌, Bool, true, false, cond, eqb, ltb, List, [], ◌∷◌, ◌++◌, length, take, drop, one-add, Some, None, ◌⊎◌, inl, inr, refl, sym, ap, subst, ◌∙◌, arith}
use Rattle.std.specs.Prelude.{IsTrue, codes}
use Rattle.std.specs.Cmp.Lexicographic.{bytes_decides}
use Rattle.std.specs.List.{position_or_len, starts_with}
use Rattle.std.specs.Option.{option_map_or}
use Rattle.std.proofs.lemmas.Bool.{cases_Bool, eqb-true, ltb-true, ltb-false}
use Rattle.std.proofs.lemmas.List.{take-append-drop, take_all, drop_all}
use Rattle.std.proofs.lemmas.List.Elements.{All-nil, All-cons}
use Rattle.bspl_parser.specs.inner.Scanner.{comment_len, blank_len, gap_len}
use Rattle.bspl_parser.specs.Tokens.{is_blank_byte, IsLine, IsGap, nothing, blank, comment, IsEnd}
use Rattle.bspl_parser.proofs.Gaps.{NotLf}

abbrev is_lf : ℕ → Bool
is_lf b = eqb b 10

-- the bytes before the first LF are a line
before_lf : (bytes : List ℕ) → IsLine (take (position_or_len is_lf bytes) bytes)
before_lf [] = All-nil NotLf
before_lf (b ∷ bs) =
    elim (cases_Bool (eqb b 10)) [
      | inl is ↦ rw is (All-nil NotLf)
      | inr other ↦ rw (other, one-add) (All-cons NotLf b (take (position_or_len is_lf bs) bs) (λ is. (let at_lf : eqb 10 10 ≡ false = subst (λ c. eqb c 10 ≡ false) is other in cc)) (before_lf bs))
    ]

-- and the LF comes then
up_to_lf : (bytes : List ℕ) → position_or_len is_lf bytes < length bytes → take (suc (position_or_len is_lf bytes)) bytes ≡ take (position_or_len is_lf bytes) bytes ++ 10 ∷ []
up_to_lf [] within = absurd (omega arith)
up_to_lf (b ∷ bs) within =
    elim (cases_Bool (eqb b 10)) [
      | inl is ↦ rw is (ap (λ c. c ∷ []) (eqb-true b 10 is))
      | inr other ↦
          let same_offset : position_or_len is_lf (b ∷ bs) ≡ suc (position_or_len is_lf bs) = rw (other, one-add) refl in
          let within' : position_or_len is_lf bs < length bs = omega arith in
          rw same_offset (ap (λ r. b ∷ r) (up_to_lf bs within'))
    ]

-- the bytes begin with a gap of that length, or are a comment without LF
abbrev pub IsPassed : List ℕ → ℕ → Type 0
IsPassed bytes n = IsGap (take n bytes) ⊎ (IsEnd bytes × (drop n bytes ≡ []))

comment_found : (cs : List ℕ) (has : Bool) → ltb (1 + (1 + position_or_len is_lf cs)) (suc (suc (length cs))) ≡ has
    → IsPassed (47 ∷ 47 ∷ cs) (option_map_or (λ index. index + 1) (cond has (Some (1 + (1 + position_or_len is_lf cs))) None) (suc (suc (length cs))))
comment_found cs true has =
    let k = position_or_len is_lf cs in
    let inside = ltb-true (1 + (1 + k)) (suc (suc (length cs))) has in
    let within : k < length cs = omega arith in
    let same_offset : 1 + (1 + k) + 1 ≡ suc (suc (suc k)) = omega arith in
    inl (rw same_offset (rw (up_to_lf cs within) (comment (take k cs) (before_lf cs) nothing)))
comment_found cs false has =
    let k = position_or_len is_lf cs in
    let outside = ltb-false (1 + (1 + k)) (suc (suc (length cs))) has in
    let past : length cs ≤ k = omega arith in
    inr (inr (cs, subst IsLine (take_all k cs past) (before_lf cs), refl), drop_all (suc (suc (length cs))) (47 ∷ 47 ∷ cs) (omega arith))

-- what begins with two slashes
slashes : (bytes : List ℕ) → starts_with eqb bytes (codes "//") ≡ true → bytes ≡ 47 ∷ 47 ∷ drop 2 bytes
slashes bytes starts = sym (take-append-drop 2 bytes) ∙ ap (λ x. x ++ drop 2 bytes) (sym ((bytes_decides (codes "//") (take 2 bytes)).0 starts))

comment_is : (bytes : List ℕ) → starts_with eqb bytes (codes "//") ≡ true → IsPassed bytes (comment_len bytes)
comment_is bytes starts =
    let cs = drop 2 bytes in
    subst (λ x. IsPassed x (comment_len x)) (sym (slashes bytes starts)) (comment_found cs (ltb (1 + (1 + position_or_len is_lf cs)) (suc (suc (length cs)))) refl)

-- a blank is a gap
blank_is_gap : (bytes : List ℕ) → IsGap (take (blank_len bytes) bytes)
blank_is_gap [] = nothing
blank_is_gap (b ∷ bs) =
    elim (cases_Bool (is_blank_byte b)) [
      | inl is ↦ rw is (blank is nothing)
      | inr other ↦ rw other nothing
    ]

gap_found : (bytes : List ℕ) (starts : Bool) → starts_with eqb bytes (codes "//") ≡ starts → IsPassed bytes (cond starts (comment_len bytes) (blank_len bytes))
gap_found bytes true s = comment_is bytes s
gap_found bytes false s = inl (blank_is_gap bytes)

-- what is found is skipped
pub gap_is_passed : (bytes : List ℕ) → IsPassed bytes (gap_len bytes)
unfolding gap_len
gap_is_passed bytes = gap_found bytes (starts_with eqb bytes (codes "//")) refl

-- a comment ends within the bytes
comment_within : (cs : List ℕ) (has : Bool) → ltb (1 + (1 + position_or_len is_lf cs)) (suc (suc (length cs))) ≡ has → option_map_or (λ index. index + 1) (cond has (Some (1 + (1 + position_or_len is_lf cs))) None) (suc (suc (length cs))) ≤ suc (suc (length cs))
comment_within cs true has = (let inside = ltb-true (1 + (1 + position_or_len is_lf cs)) (suc (suc (length cs))) has in omega arith)
comment_within cs false has = omega arith

-- and so does a blank
blank_within : (bytes : List ℕ) → blank_len bytes ≤ length bytes
blank_within [] = omega arith
blank_within (b ∷ bs) =
    elim (cases_Bool (is_blank_byte b)) [
      | inl is ↦ rw is (omega arith)
      | inr other ↦ rw other (omega arith)
    ]

-- and what is found of the two
within_found : (bytes : List ℕ) (starts : Bool) → starts_with eqb bytes (codes "//") ≡ starts → cond starts (comment_len bytes) (blank_len bytes) ≤ length bytes
within_found bytes true s =
    let cs = drop 2 bytes in
    subst (λ x. comment_len x ≤ length x) (sym (slashes bytes s)) (comment_within cs (ltb (1 + (1 + position_or_len is_lf cs)) (suc (suc (length cs)))) refl)
within_found bytes false s = blank_within bytes

-- what is found lies within the bytes
pub gap_within : (bytes : List ℕ) → gap_len bytes ≤ length bytes
unfolding gap_len
gap_within bytes = within_found bytes (starts_with eqb bytes (codes "//")) refl

-- the bytes begin with no blank and no comment
pub record NoGap (bytes : List ℕ) : Type 0 where
  pub no_blank : (b : ℕ) (rest : List ℕ) → bytes ≡ b ∷ rest → IsTrue (is_blank_byte b) → ⊥
  pub no_comment : (rest : List ℕ) → bytes ≡ codes "//" ++ rest → ⊥

comment_is_some : (cs : List ℕ) (has : Bool) → option_map_or (λ index. index + 1) (cond has (Some (1 + (1 + position_or_len is_lf cs))) None) (suc (suc (length cs))) ≡ 0 → ⊥
comment_is_some cs true e = omega arith
comment_is_some cs false e = omega arith

-- a comment has a length
no_comment_len : (bytes : List ℕ) → starts_with eqb bytes (codes "//") ≡ true → comment_len bytes ≡ 0 → ⊥
no_comment_len bytes starts none =
    let cs = drop 2 bytes in
    comment_is_some cs (ltb (1 + (1 + position_or_len is_lf cs)) (suc (suc (length cs)))) (sym (ap comment_len (slashes bytes starts)) ∙ none)

no_blanks_at : (b : ℕ) (bs : List ℕ) → blank_len (b ∷ bs) ≡ 0 → is_blank_byte b ≡ true → ⊥
no_blanks_at b bs none is = (let some : blank_len (b ∷ bs) ≡ 1 = rw is refl in omega arith)

no_blank_found : (b : ℕ) (bs : List ℕ) (starts : Bool) → starts_with eqb (b ∷ bs) (codes "//") ≡ starts → cond starts (comment_len (b ∷ bs)) (blank_len (b ∷ bs)) ≡ 0 → is_blank_byte b ≡ true → ⊥
no_blank_found b bs true s none is = no_comment_len (b ∷ bs) s none
no_blank_found b bs false s none is = no_blanks_at b bs none is

no_blank_at : (b : ℕ) (bs : List ℕ) → gap_len (b ∷ bs) ≡ 0 → is_blank_byte b ≡ true → ⊥
unfolding gap_len
no_blank_at b bs none is = no_blank_found b bs (starts_with eqb (b ∷ bs) (codes "//")) refl none is

no_comment_at : (rest : List ℕ) → gap_len (47 ∷ 47 ∷ rest) ≡ 0 → ⊥
unfolding gap_len
no_comment_at rest none = comment_is_some rest (ltb (1 + (1 + position_or_len is_lf rest)) (suc (suc (length rest)))) none

-- where nothing is found there is none
pub no_gap_there : (bytes : List ℕ) → gap_len bytes ≡ 0 → NoGap bytes
no_gap_there bytes none =
    record {
      no_blank = λ b rest e is. no_blank_at b rest (ap gap_len (sym e) ∙ none) is;
      no_comment = λ rest e. no_comment_at rest (ap gap_len (sym e) ∙ none);
    }
