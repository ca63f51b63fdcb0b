-- A name that goes on from its first byte as a plain one.
use Rattle.std.proofs.Common.{◌≡◌, ℕ, ◌+◌, ◌≤◌, true, false, cond, eqb, List, [], ◌∷◌, drop, length, inl, inr, refl, ap, subst, ◌∙◌, arith}
use Rattle.std.specs.Char.{is_ascii_alphanumeric}
use Rattle.std.proofs.lemmas.Bool.{cases_Bool, cases_lt}
use Rattle.std.proofs.lemmas.List.{drop-drop, drop_all}
use Rattle.bspl_parser.specs.declared.name_length.State.TheVariants.{Plain}
use Rattle.bspl_parser.specs.inner.NameLength.{has_begin, has_plain, goes_on, last_end, name_len}

-- no name begins there
pub none_begins : (bytes : List ℕ) → has_begin bytes ≡ false → 0 ≡ name_len bytes
unfolding name_len
none_begins [] none = refl
none_begins (b ∷ bs) none = rw none refl

-- or one does, with the first byte
pub plain_begins : (bytes : List ℕ) → has_begin bytes ≡ true → last_end Plain 1 1 (drop 1 bytes) ≡ name_len bytes
unfolding name_len
plain_begins [] begins = absurd cc
plain_begins (b ∷ bs) begins = rw begins refl

-- a byte that begins a name is there
pub some_begins : (bytes : List ℕ) → has_begin bytes ≡ true → 1 ≤ length bytes
some_begins [] begins = absurd cc
some_begins (b ∷ bs) begins = omega arith

-- it goes on with a byte
plain_goes_on : (len : ℕ) (rest : List ℕ) → has_plain rest ≡ true → last_end Plain len len rest ≡ last_end Plain (len + 1) (len + 1) (drop 1 rest)
plain_goes_on len [] plain = absurd cc
plain_goes_on len (b ∷ bs) plain = rw plain refl

pub plain_step : (bytes : List ℕ) (len : ℕ) → has_plain (drop len bytes) ≡ true → last_end Plain len len (drop len bytes) ≡ last_end Plain (len + 1) (len + 1) (drop (len + 1) bytes)
plain_step bytes len plain = plain_goes_on len (drop len bytes) plain ∙ ap (last_end Plain (len + 1) (len + 1)) (drop-drop 1 len bytes)

-- a byte of it lies in the bytes
pub plain_within : (bytes : List ℕ) (len : ℕ) → has_plain (drop len bytes) ≡ true → len + 1 ≤ length bytes
plain_within bytes len plain =
    elim (cases_lt len (length bytes)) [
      | inl within ↦ omega arith
      | inr past ↦ absurd (let none : has_plain [] ≡ true = subst (λ r. has_plain r ≡ true) (drop_all len bytes past) plain in cc)
    ]

-- or it ends there
pub plain_ends : (len : ℕ) (rest : List ℕ) → has_plain rest ≡ false → goes_on rest ≡ false → len ≡ last_end Plain len len rest
plain_ends len [] plain more = refl
plain_ends len (b ∷ []) plain more =
    elim (cases_Bool (eqb b 45)) [
      | inl dash ↦ rw (plain, dash) refl
      | inr other ↦ rw (plain, other, more) refl
    ]
plain_ends len (b ∷ c ∷ bs) plain more =
    elim (cases_Bool (eqb b 45)) [
      | inl dash ↦ (let letter : is_ascii_alphanumeric c ≡ false = subst (λ d. cond d (is_ascii_alphanumeric c) (eqb b 35) ≡ false) dash more in rw (plain, dash, letter) refl)
      | inr other ↦ (let hash : eqb b 35 ≡ false = subst (λ d. cond d (is_ascii_alphanumeric c) (eqb b 35) ≡ false) other more in rw (plain, other, hash) refl)
    ]
