-- The pieces round `#` of a name with a group in it.
use Rattle.std.proofs.Common.{◌≡◌, ℕ, Bool, true, false, not, eqb, one-add, add-one, List, [], ◌∷◌, ◌++◌, inl, inr, refl, sym, ap, ◌∙◌}
use Rattle.std.specs.Char.{is_ascii_digit}
use Rattle.std.specs.List.{list_all, list_any, slice_split, onto_first, before_first, after_first}
use Rattle.std.specs.Str.{bytes_eq}
use Rattle.std.proofs.lemmas.Bool.{and_parts, cases_Bool, eqb-true, true≢false}
use Rattle.std.proofs.lemmas.List.Folds.{list_all-append}
use Rattle.std.proofs.lemmas.List.Splits.{slice_split-cons_yes, slice_split-cons_no}
use Rattle.std.proofs.lemmas.Slice.Eq.{bytes_eq-Decides}
use Rattle.bspl_types.specs.Name.{is_plain_name, is_positive_number, is_group, is_grouped, is_reserved, reserved_words}

abbrev pub is_hash : ℕ → Bool
is_hash b = eqb b 35

abbrev pub is_dot : ℕ → Bool
is_dot b = eqb b 46

-- the pieces of a text
abbrev pub pieces : List ℕ → List (List ℕ)
pieces bytes = slice_split is_hash bytes

-- there is a first piece
pub some_piece : (bytes : List ℕ) → (p : List ℕ) × (ps : List (List ℕ)) × (pieces bytes ≡ p ∷ ps)
some_piece [] = ([], [], refl)
some_piece (b ∷ bs) =
    let others = some_piece bs in
    elim (cases_Bool (is_hash b)) [
      | inl hash ↦ ([], pieces bs, slice_split-cons_yes is_hash b bs hash)
      | inr other ↦ (b ∷ others.0, others.1, slice_split-cons_no is_hash b bs other ∙ ap (onto_first b) others.2)
    ]

-- a byte goes to the first of the pieces
onto_front : (b : ℕ) (parts others : List (List ℕ)) (p : List ℕ) (ps : List (List ℕ)) → parts ≡ p ∷ ps → onto_first b (parts ++ others) ≡ onto_first b parts ++ others
onto_front b [] others p ps some = cc
onto_front b (q ∷ qs) others p ps some = refl

-- a text is cut at a `#`
pub pieces_join : (front rest : List ℕ) → pieces (front ++ 35 ∷ rest) ≡ pieces front ++ pieces rest
pieces_join [] rest = refl
pieces_join (b ∷ bs) rest =
    let others = some_piece bs in
    elim (cases_Bool (is_hash b)) [
      | inl hash ↦ slice_split-cons_yes is_hash b (bs ++ 35 ∷ rest) hash ∙ ap (λ parts. [] ∷ parts) (pieces_join bs rest) ∙ ap (λ parts. parts ++ pieces rest) (sym (slice_split-cons_yes is_hash b bs hash))
      | inr other ↦ slice_split-cons_no is_hash b (bs ++ 35 ∷ rest) other ∙ ap (onto_first b) (pieces_join bs rest) ∙ onto_front b (pieces bs) (pieces rest) others.0 others.1 others.2 ∙ ap (λ parts. parts ++ pieces rest) (sym (slice_split-cons_no is_hash b bs other))
    ]

-- a digit is no `#` and no `.`
digit_no_hash : (d : ℕ) → is_ascii_digit d ≡ true → is_hash d ≡ false
digit_no_hash d digit = elim (cases_Bool (is_hash d)) [
  | inl hash ↦ let none : is_ascii_digit d ≡ false = rw (eqb-true d 35 hash) refl in absurd (true≢false (sym digit ∙ none))
  | inr other ↦ other
]

digit_no_dot : (d : ℕ) → is_ascii_digit d ≡ true → is_dot d ≡ false
digit_no_dot d digit = elim (cases_Bool (is_dot d)) [
  | inl dot ↦ let none : is_ascii_digit d ≡ false = rw (eqb-true d 46 dot) refl in absurd (true≢false (sym digit ∙ none))
  | inr other ↦ other
]

-- digits and a `.` stand in the first piece
pub pieces_number : (ds text p : List ℕ) (ps : List (List ℕ)) → list_all is_ascii_digit ds ≡ true → pieces text ≡ p ∷ ps → pieces (ds ++ 46 ∷ text) ≡ (ds ++ 46 ∷ p) ∷ ps
pieces_number [] text p ps digits are = ap (onto_first 46) are
pieces_number (d ∷ ds) text p ps digits are =
    let both = and_parts (is_ascii_digit d) (list_all is_ascii_digit ds) digits in
    slice_split-cons_no is_hash d (ds ++ 46 ∷ text) (digit_no_hash d both.0) ∙ ap (onto_first d) (pieces_number ds text p ps both.1 are)

-- the pieces before and after the `.`
before_more : (b : ℕ) (p : List ℕ) → is_dot b ≡ false → before_first is_dot (b ∷ p) ≡ b ∷ before_first is_dot p
before_more b p other = rw (other, one-add) refl

after_more : (b : ℕ) (p : List ℕ) → is_dot b ≡ false → after_first is_dot (b ∷ p) ≡ after_first is_dot p
after_more b p other = rw (other, one-add, add-one, add-one) refl

before_digits : (ds p : List ℕ) → list_all is_ascii_digit ds ≡ true → before_first is_dot (ds ++ 46 ∷ p) ≡ ds
before_digits [] p digits = refl
before_digits (d ∷ ds) p digits =
    let both = and_parts (is_ascii_digit d) (list_all is_ascii_digit ds) digits in
    before_more d (ds ++ 46 ∷ p) (digit_no_dot d both.0) ∙ ap (λ front. d ∷ front) (before_digits ds p both.1)

after_digits : (ds p : List ℕ) → list_all is_ascii_digit ds ≡ true → after_first is_dot (ds ++ 46 ∷ p) ≡ p
after_digits [] p digits = refl
after_digits (d ∷ ds) p digits =
    let both = and_parts (is_ascii_digit d) (list_all is_ascii_digit ds) digits in
    after_more d (ds ++ 46 ∷ p) (digit_no_dot d both.0) ∙ after_digits ds p both.1

-- a number, a `.` and a plain name are a group
pub group_made : (ds p : List ℕ) → list_all is_ascii_digit ds ≡ true → is_positive_number ds ≡ true → is_plain_name p ≡ true → is_group (ds ++ 46 ∷ p) ≡ true
group_made ds p digits number plain = rw (before_digits ds p digits, after_digits ds p digits, number, plain) refl

-- a name with a group more
pub grouped_join : (front more : List (List ℕ)) (group : List ℕ) → is_grouped front ≡ true → is_group group ≡ true → list_all is_group more ≡ true → is_grouped (front ++ group ∷ more) ≡ true
grouped_join [] more group front_is group_is more_are = absurd (true≢false (sym front_is))
grouped_join (plain ∷ groups) more group front_is group_is more_are =
    let both = and_parts (is_plain_name plain) (list_all is_group groups) front_is in
    rw (both.0, list_all-append is_group groups (group ∷ more), both.1, group_is, more_are) refl

-- a text with a `#` is no reserved word
has_hash : (front rest : List ℕ) → list_any is_hash (front ++ 35 ∷ rest) ≡ true
has_hash [] rest = refl
has_hash (b ∷ bs) rest = elim (cases_Bool (is_hash b)) [
  | inl hash ↦ rw hash refl
  | inr other ↦ rw other (has_hash bs rest)
]

none_equal : (text : List ℕ) (words : List (List ℕ)) → list_any is_hash text ≡ true → list_all (λ w. not (list_any is_hash w)) words ≡ true → list_any (bytes_eq text) words ≡ false
none_equal text [] hash bare = refl
none_equal text (w ∷ ws) hash bare =
    let both = and_parts (not (list_any is_hash w)) (list_all (λ v. not (list_any is_hash v)) ws) bare in
    elim (cases_Bool (bytes_eq text w)) [
      | inl same ↦
          let hashed : list_any is_hash w ≡ true = ap (list_any is_hash) (sym ((bytes_eq-Decides text w).0 same)) ∙ hash in
          let never : false ≡ true = rw hashed at both.0 in
          absurd (true≢false (sym never))
      | inr other ↦ rw other (none_equal text ws hash both.1)
    ]

pub not_reserved : (front rest : List ℕ) → is_reserved (front ++ 35 ∷ rest) ≡ false
not_reserved front rest = none_equal (front ++ 35 ∷ rest) reserved_words (has_hash front rest) refl
