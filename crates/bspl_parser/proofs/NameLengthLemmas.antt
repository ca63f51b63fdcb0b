-- Reading byte by byte accepts a plain name with groups, and nothing else.
use Rattle.std.proofs.Common.{◌≡◌, ℕ, Bool, true, false, not, ◌&&◌, ◌||◌, eqb, List, [], ◌∷◌, one-add, add-one, Option, Some, None, inl, inr, refl, sym, ap, subst, ◌∙◌}
use Rattle.std.specs.Char.{is_ascii_digit, is_ascii_alphanumeric}
use Rattle.std.specs.List.{list_all, slice_split, onto_first, before_first, after_first}
use Rattle.std.specs.Option.{option_map_or}
use Rattle.std.proofs.lemmas.Bool.{cases_Bool, eqb-true, or_left}
use Rattle.std.proofs.lemmas.List.Splits.{slice_split-cons_yes, slice_split-cons_no}
use Rattle.bspl_types.specs.Name.{begins_name, goes_on, is_name_rest, is_plain_name, is_group, is_grouped}
use Rattle.bspl_parser.specs.declared.name_length.State.{State}
use Rattle.bspl_parser.specs.declared.name_length.State.TheVariants.{Start, Plain, Dash, Hash, Number}
use Rattle.bspl_parser.specs.inner.NameLength.{after_plain, after_digit, next_state, is_final}

-- a name may end after all of the bytes
abbrev pub accepts : State → List ℕ → Bool
accepts s [] = is_final s
accepts s (b ∷ bs) = option_map_or (λ next. accepts next bs) (next_state s b) false

-- the pieces round `#`
abbrev pieces : List ℕ → List (List ℕ)
pieces bytes = slice_split (λ b. eqb b 35) bytes

abbrev is_dot : ℕ → Bool
is_dot b = eqb b 46

-- what each state wants of the piece that it is in, and of the pieces after it
abbrev plain_of : List (List ℕ) → Bool
plain_of [] = false
plain_of (p ∷ ps) = is_name_rest p && list_all is_group ps

abbrev dash_of : List (List ℕ) → Bool
dash_of [] = false
dash_of ([] ∷ ps) = false
dash_of ((c ∷ cs) ∷ ps) = is_ascii_alphanumeric c && (is_name_rest cs && list_all is_group ps)

abbrev number_of : List (List ℕ) → Bool
number_of [] = false
number_of (p ∷ ps) = (list_all is_ascii_digit (before_first is_dot p) && is_plain_name (after_first is_dot p)) && list_all is_group ps

-- there is a first piece
some_piece : (bytes : List ℕ) → (p : List ℕ) × (ps : List (List ℕ)) × (pieces bytes ≡ p ∷ ps)
some_piece [] = ([], [], refl)
some_piece (b ∷ bs) =
    let others = some_piece bs in
    elim (cases_Bool (eqb b 35)) [
      | inl hash ↦ ([], pieces bs, slice_split-cons_yes (λ b. eqb b 35) b bs hash)
      | inr other ↦ (b ∷ others.0, others.1, slice_split-cons_no (λ b. eqb b 35) b bs other ∙ ap (onto_first b) others.2)
    ]

-- a byte that is no dot belongs to the part before the dot
before_more : (b : ℕ) (p : List ℕ) → eqb b 46 ≡ false → before_first is_dot (b ∷ p) ≡ b ∷ before_first is_dot p
before_more b p other = rw (other, one-add) refl

after_more : (b : ℕ) (p : List ℕ) → eqb b 46 ≡ false → after_first is_dot (b ∷ p) ≡ after_first is_dot p
after_more b p other = rw (other, one-add, add-one, add-one) refl

before_dot : (b : ℕ) (p : List ℕ) → eqb b 46 ≡ true → before_first is_dot (b ∷ p) ≡ []
before_dot b p dot = rw dot refl

after_dot : (b : ℕ) (p : List ℕ) → eqb b 46 ≡ true → after_first is_dot (b ∷ p) ≡ p
after_dot b p dot = rw dot refl

-- one byte on
accepts-next : (s : State) (b : ℕ) (bs : List ℕ) (next : Option State) → next_state s b ≡ next → accepts s (b ∷ bs) ≡ option_map_or (λ n. accepts n bs) next false
accepts-next s b bs next is = ap (λ o. option_map_or (λ n. accepts n bs) o false) is

-- a letter, a digit or `_` goes on, whatever follows
goes_on-word : (b : ℕ) (p : List ℕ) → is_ascii_alphanumeric b || eqb b 95 ≡ true → goes_on b p ≡ true
goes_on-word b [] word = word
goes_on-word b (c ∷ cs) word = or_left (is_ascii_alphanumeric b || eqb b 95) (eqb b 45 && is_ascii_alphanumeric c) word

-- a `-` goes on before a letter or a digit
dash_rest : (b : ℕ) (p : List ℕ) (ps : List (List ℕ)) → is_ascii_alphanumeric b || eqb b 95 ≡ false → eqb b 45 ≡ true → dash_of (p ∷ ps) ≡ plain_of ((b ∷ p) ∷ ps)
dash_rest b [] ps word dash = rw word refl
dash_rest b (c ∷ cs) ps word dash =
    elim (cases_Bool (is_ascii_alphanumeric c)) [
      | inl more ↦ rw (word, dash, more, goes_on-word c cs (or_left (is_ascii_alphanumeric c) (eqb c 95) more)) refl
      | inr end ↦ rw (word, dash, end) refl
    ]

-- another byte does not
stops : (b : ℕ) (p : List ℕ) (ps : List (List ℕ)) → is_ascii_alphanumeric b || eqb b 95 ≡ false → eqb b 45 ≡ false → false ≡ plain_of ((b ∷ p) ∷ ps)
stops b [] ps word dash = rw word refl
stops b (c ∷ cs) ps word dash = rw (word, dash) refl

plain_step : (b : ℕ) (bs p : List ℕ) (ps : List (List ℕ)) → eqb b 35 ≡ false → accepts Plain bs ≡ plain_of (p ∷ ps) → accepts Dash bs ≡ dash_of (p ∷ ps) → accepts Plain (b ∷ bs) ≡ plain_of ((b ∷ p) ∷ ps)
plain_step b bs p ps hash plain dash =
    elim (cases_Bool (is_ascii_alphanumeric b || eqb b 95)) [
      | inl word ↦
          let next : after_plain b ≡ Some Plain = rw word refl in
          let same : is_name_rest p && list_all is_group ps ≡ plain_of ((b ∷ p) ∷ ps) = rw (goes_on-word b p word) refl in
          accepts-next Plain b bs (Some Plain) next ∙ plain ∙ same
      | inr word ↦ elim (cases_Bool (eqb b 45)) [
        | inl is ↦ let next : after_plain b ≡ Some Dash = rw (word, is) refl in accepts-next Plain b bs (Some Dash) next ∙ dash ∙ dash_rest b p ps word is
        | inr other ↦ let next : after_plain b ≡ None = rw (word, other, hash) refl in accepts-next Plain b bs None next ∙ stops b p ps word other
      ]
    ]

dash_step : (b : ℕ) (bs p : List ℕ) (ps : List (List ℕ)) → accepts Plain bs ≡ plain_of (p ∷ ps) → accepts Dash (b ∷ bs) ≡ dash_of ((b ∷ p) ∷ ps)
dash_step b bs p ps plain =
    elim (cases_Bool (is_ascii_alphanumeric b)) [
      | inl more ↦ rw more plain
      | inr end ↦ rw end refl
    ]

start_step : (b : ℕ) (bs p : List ℕ) (ps : List (List ℕ)) → accepts Plain bs ≡ plain_of (p ∷ ps) → accepts Start (b ∷ bs) ≡ is_grouped ((b ∷ p) ∷ ps)
start_step b bs p ps plain =
    elim (cases_Bool (begins_name b)) [
      | inl begins ↦
          let next : next_state Start b ≡ Some Plain = rw begins refl in
          let same : is_name_rest p && list_all is_group ps ≡ is_grouped ((b ∷ p) ∷ ps) = rw begins refl in
          accepts-next Start b bs (Some Plain) next ∙ plain ∙ same
      | inr other ↦
          let next : next_state Start b ≡ None = rw other refl in
          let same : false ≡ is_grouped ((b ∷ p) ∷ ps) = rw other refl in
          accepts-next Start b bs None next ∙ same
    ]

number_step : (b : ℕ) (bs p : List ℕ) (ps : List (List ℕ)) → accepts Number bs ≡ number_of (p ∷ ps) → accepts Start bs ≡ is_grouped (p ∷ ps) → accepts Number (b ∷ bs) ≡ number_of ((b ∷ p) ∷ ps)
number_step b bs p ps number start =
    elim (cases_Bool (eqb b 46)) [
      | inl dot ↦
          let digit : is_ascii_digit b ≡ false = rw (eqb-true b 46 dot) refl in
          let next : after_digit b ≡ Some Start = rw (digit, dot) refl in
          let same : is_grouped (p ∷ ps) ≡ number_of ((b ∷ p) ∷ ps) = rw (before_dot b p dot, after_dot b p dot) refl in
          accepts-next Number b bs (Some Start) next ∙ start ∙ same
      | inr other ↦ elim (cases_Bool (is_ascii_digit b)) [
        | inl digit ↦
            let next : after_digit b ≡ Some Number = rw digit refl in
            let same : number_of (p ∷ ps) ≡ number_of ((b ∷ p) ∷ ps) = rw (before_more b p other, after_more b p other, digit) refl in
            accepts-next Number b bs (Some Number) next ∙ number ∙ same
        | inr none ↦
            let next : after_digit b ≡ None = rw (none, other) refl in
            let same : false ≡ number_of ((b ∷ p) ∷ ps) = rw (before_more b p other, none) refl in
            accepts-next Number b bs None next ∙ same
      ]
    ]

hash_step : (b : ℕ) (bs p : List ℕ) (ps : List (List ℕ)) → accepts Number bs ≡ number_of (p ∷ ps) → accepts Hash (b ∷ bs) ≡ list_all is_group ((b ∷ p) ∷ ps)
hash_step b bs p ps number =
    elim (cases_Bool (eqb b 46)) [
      | inl dot ↦
          let next : next_state Hash b ≡ None = rw (eqb-true b 46 dot) refl in
          let same : false ≡ list_all is_group ((b ∷ p) ∷ ps) = rw (before_dot b p dot) refl in
          accepts-next Hash b bs None next ∙ same
      | inr other ↦ elim (cases_Bool (is_ascii_digit b && not (eqb b 48))) [
        | inl digit ↦
            let next : next_state Hash b ≡ Some Number = rw digit refl in
            let same : number_of (p ∷ ps) ≡ list_all is_group ((b ∷ p) ∷ ps) = rw (before_more b p other, after_more b p other, digit) refl in
            accepts-next Hash b bs (Some Number) next ∙ number ∙ same
        | inr none ↦
            let next : next_state Hash b ≡ None = rw none refl in
            let same : false ≡ list_all is_group ((b ∷ p) ∷ ps) = rw (before_more b p other, none) refl in
            accepts-next Hash b bs None next ∙ same
      ]
    ]

-- each state accepts what it wants of the pieces
pub record Accepts (bytes : List ℕ) (ps : List (List ℕ)) : Type 0 where
  pub plain : accepts Plain bytes ≡ plain_of ps
  pub dash : accepts Dash bytes ≡ dash_of ps
  pub start : accepts Start bytes ≡ is_grouped ps
  pub hash : accepts Hash bytes ≡ list_all is_group ps
  pub number : accepts Number bytes ≡ number_of ps

-- after a `#` come further groups
hash_next : (b : ℕ) (bs : List ℕ) → eqb b 35 ≡ true → Accepts bs (pieces bs) → Accepts (b ∷ bs) ([] ∷ pieces bs)
hash_next b bs is others =
    let b-is = eqb-true b 35 is in
    record {
      plain = accepts-next Plain b bs (Some Hash) (rw b-is refl) ∙ others.hash;
      dash = accepts-next Dash b bs None (rw b-is refl);
      start = accepts-next Start b bs None (rw b-is refl);
      hash = accepts-next Hash b bs None (rw b-is refl);
      number = accepts-next Number b bs None (rw b-is refl);
    }

other_next : (b : ℕ) (bs p : List ℕ) (ps : List (List ℕ)) → eqb b 35 ≡ false → Accepts bs (p ∷ ps) → Accepts (b ∷ bs) ((b ∷ p) ∷ ps)
other_next b bs p ps other others =
    record {
      plain = plain_step b bs p ps other others.plain others.dash;
      dash = dash_step b bs p ps others.plain;
      start = start_step b bs p ps others.plain;
      hash = hash_step b bs p ps others.number;
      number = number_step b bs p ps others.number others.start;
    }

all_accept : (bytes : List ℕ) → Accepts bytes (pieces bytes)
all_accept [] = record { plain = refl; dash = refl; start = refl; hash = refl; number = refl }
all_accept (b ∷ bs) =
    let others = all_accept bs in
    elim (cases_Bool (eqb b 35)) [
      | inl hash ↦ subst (Accepts (b ∷ bs)) (sym (slice_split-cons_yes (λ b. eqb b 35) b bs hash)) (hash_next b bs hash others)
      | inr other ↦
          let some = some_piece bs in
          let cut : pieces (b ∷ bs) ≡ (b ∷ some.0) ∷ some.1 = slice_split-cons_no (λ b. eqb b 35) b bs other ∙ ap (onto_first b) some.2 in
          subst (Accepts (b ∷ bs)) (sym cut) (other_next b bs some.0 some.1 other (subst (Accepts bs) some.2 others))
    ]

-- what is accepted is a plain name with groups
pub accepts-is_grouped : (text : List ℕ) → accepts Start text ≡ is_grouped (pieces text)
accepts-is_grouped text = (all_accept text).start
