-- The clauses of a list and their numbers.
use Rattle.std.proofs.Common.{◌≡◌, ◌≢◌, ℕ, zero, suc, ◌+◌, ◌-◌, ◌<◌, ◌≤◌, Bool, false, Option, Some, None, List, [], ◌∷◌, ◌++◌, ◌⊎◌, inl, inr, length, get_or, set, map, sym, ap, refl, ◌∙◌, subst, arith, length-append, length-set, get_or-set_same, get_or-set_other}
use Rattle.std.specs.Prelude.{◌==◌, slice_get, IsSome, IsTrue}
use Rattle.std.proofs.lemmas.Bool.{cases_Bool, cases_eq, cases_lt, ne_eqb, false≢true}
use Rattle.std.proofs.lemmas.List.{get_or_append_left, get_or_push, get_or_past}
use Rattle.clause_core.specs.declared.literal.Lit.{Lit}
use Rattle.clause_core.specs.Numbering.{Numbering, numbered, HasNumber, live}

-- number 0 has no clause
pub live-zero : (clauses : List (Option (List Lit))) (n : ℕ) → n ≡ 0 → live clauses n ≡ None
live-zero clauses n zero_number = rw zero_number refl

-- what another number has
pub live-some : (clauses : List (Option (List Lit))) (n : ℕ) → n ≢ 0 → live clauses n ≡ get_or clauses (n - 1) None
live-some clauses n some = rw (ne_eqb n 0 some) refl

-- a number with a clause is not 0
number-from_one : (clauses : List (Option (List Lit))) (n : ℕ) (c : List Lit) → HasNumber (live clauses) n c → n ≢ 0
number-from_one clauses n c has zero_number = let none : None ≡ Some c = sym (live-zero clauses n zero_number) ∙ has.there in cc

-- a number with a clause is at most the length of the list
pub number_within : (clauses : List (Option (List Lit))) (n : ℕ) (c : List Lit) → HasNumber (live clauses) n c → (0 < n) × (n ≤ length clauses)
number_within clauses n c has = elim (cases_lt (n - 1) (length clauses)) [
  | inl within ↦ (omega (arith, number-from_one clauses n c has), omega (arith, within, number-from_one clauses n c has))
  | inr past ↦ absurd (let none : None ≡ Some c = sym (get_or_past clauses (n - 1) None past) ∙ sym (live-some clauses n (number-from_one clauses n c has)) ∙ has.there in cc)
]

-- the numbering of clauses with one more
pub record Widens (old : Numbering) (clause : List Lit) (new : Numbering) : Type 0 where
  pub kept : (n : ℕ) (c : List Lit) → HasNumber old n c → HasNumber new n c
  pub only : (n : ℕ) (c : List Lit) → HasNumber new n c → HasNumber old n c ⊎ (clause ≡ c)

-- the other numbers keep what they name
pub others_keep : (clauses : List (Option (List Lit))) (clause : Option (List Lit)) (n : ℕ) → n ≢ length clauses + 1 → live (clauses ++ clause ∷ []) n ≡ live clauses n
others_keep clauses clause n other = elim (cases_eq n 0) [
  | inl is ↦ live-zero (clauses ++ clause ∷ []) n is ∙ sym (live-zero clauses n is)
  | inr some ↦ live-some (clauses ++ clause ∷ []) n some ∙ elim (cases_lt (n - 1) (length clauses)) [
    | inl before ↦ get_or_append_left clauses (clause ∷ []) None (n - 1) before
    | inr after ↦
        get_or_past (clauses ++ clause ∷ []) (n - 1) None (omega (arith, after, other, some, length-append clauses (clause ∷ [])))
        ∙ sym (get_or_past clauses (n - 1) None after)
  ] ∙ sym (live-some clauses n some)
]

-- the last number names the clause that was added
pub added_last : (clauses : List (Option (List Lit))) (clause : List Lit) → HasNumber (live (clauses ++ Some clause ∷ [])) (length clauses + 1) clause
added_last clauses clause = record {
  there = live-some (clauses ++ Some clause ∷ []) (length clauses + 1) (λ none. omega (arith, none))
      ∙ get_or_push clauses (Some clause) None (length clauses + 1 - 1) (omega arith);
}

-- a clause that is added widens the numbering
pub Widens-push : (clauses : List (Option (List Lit))) (clause : List Lit) → Widens (live clauses) clause (live (clauses ++ Some clause ∷ []))
Widens-push clauses clause = record {
  kept = λ n c has. record { there = others_keep clauses (Some clause) n (λ last. absurd (omega (arith, last, number_within clauses n c has))) ∙ has.there };
  only = λ n c has. elim (cases_eq n (length clauses + 1)) [
    | inl last ↦
        let one : Some clause ≡ Some c = sym (added_last clauses clause).there ∙ ap (live (clauses ++ Some clause ∷ [])) (sym last) ∙ has.there in
        inr (let same : clause ≡ c = cc in same)
    | inr other ↦ inl (record { there = sym (others_keep clauses (Some clause) n other) ∙ has.there })
  ];
}

-- the number that was removed has no clause
pub removed-gone : (clauses : List (Option (List Lit))) (n : ℕ) → live (set clauses (n - 1) None) n ≡ None
removed-gone clauses n = elim (cases_eq n 0) [
  | inl is ↦ live-zero (set clauses (n - 1) None) n is
  | inr some ↦ live-some (set clauses (n - 1) None) n some ∙ elim (cases_lt (n - 1) (length clauses)) [
    | inl within ↦ get_or-set_same clauses (n - 1) None None within
    | inr past ↦ get_or_past (set clauses (n - 1) None) (n - 1) None (omega (arith, past, length-set clauses (n - 1) None))
  ]
]

-- the other numbers keep their clauses
pub removed-others : (clauses : List (Option (List Lit))) (number n : ℕ) → 0 < number → n ≢ number → live (set clauses (number - 1) None) n ≡ live clauses n
removed-others clauses number n from_one other = elim (cases_eq n 0) [
  | inl is ↦ live-zero (set clauses (number - 1) None) n is ∙ sym (live-zero clauses n is)
  | inr some ↦ live-some (set clauses (number - 1) None) n some
      ∙ get_or-set_other clauses (number - 1) (n - 1) None None (λ same. other (omega (arith, same, from_one, some)))
      ∙ sym (live-some clauses n some)
]

-- a numbering with some of the clauses of another
pub record Narrows (old : Numbering) (number : ℕ) (new : Numbering) : Type 0 where
  pub gone : new number ≡ None
  pub others : (n : ℕ) → n ≢ number → new n ≡ old n

-- what has a number still had it before
pub Narrows-before : (old : Numbering) (number : ℕ) (new : Numbering) (n : ℕ) (c : List Lit) → Narrows old number new → HasNumber new n c → HasNumber old n c
Narrows-before old number new n c narrows has = elim (cases_eq n number) [
  | inl is ↦ absurd (let none : None ≡ Some c = sym narrows.gone ∙ ap new (sym is) ∙ has.there in cc)
  | inr other ↦ record { there = sym (narrows.others n other) ∙ has.there }
]

-- a number whose test fails has no clause
pub removed-none : (clauses : List (Option (List Lit))) (n : ℕ) (c : List Lit) (b : Bool) → b ≡ false → (IsSome (live clauses n) → IsTrue b) → HasNumber (live clauses) n c → ⊥
removed-none clauses n c b fails test has = false≢true (sym fails ∙ test (subst IsSome (sym has.there) refl))

-- a number with a clause is one of the list
pub IsSome-number : (clauses : List (Option (List Lit))) (n : ℕ) → IsSome (live clauses n) → (c : List Lit) × HasNumber (live clauses) n c
IsSome-number clauses n some = found (live clauses n) refl some
  where
    found : (o : Option (List Lit)) → live clauses n ≡ o → IsSome o → (c : List Lit) × HasNumber (live clauses) n c
    found None is none = cc
    found (Some c) is some = (c, record { there = is })

-- the clauses of a list without gaps
pub live-all : (clauses : List (List Lit)) (n : ℕ) → live (map Some clauses) n ≡ numbered clauses n
live-all clauses n = elim (cases_Bool (n == 0)) [
  | inl is ↦ rw is refl
  | inr other ↦ rw other (item clauses (n - 1))
]
  where
    item : (cs : List (List Lit)) (k : ℕ) → get_or (map Some cs) k None ≡ slice_get cs k
    item [] k = refl
    item (c ∷ cs) zero = refl
    item (c ∷ cs) (suc k) = item cs k

-- what holds of a list's clauses holds of the numbered ones
pub number_all : (P : List Lit → Type 0) (clauses : List (List Lit)) (n : ℕ) (c : List Lit) → ((k : ℕ) (d : List Lit) → k < length clauses → P (get_or clauses k d)) → HasNumber (live (map Some clauses)) n c → P c
number_all P clauses n c all has =
    item clauses (n - 1) all (sym (live-some (map Some clauses) n (number-from_one (map Some clauses) n c has)) ∙ has.there)
  where
    item : (cs : List (List Lit)) (k : ℕ) → ((j : ℕ) (d : List Lit) → j < length cs → P (get_or cs j d)) → get_or (map Some cs) k None ≡ Some c → P c
    item [] k every is = absurd (let none : None ≡ Some c = is in cc)
    item (h ∷ cs) zero every is = subst P (let both : Some h ≡ Some c = is in let same : h ≡ c = cc in same) (every 0 h (omega arith))
    item (h ∷ cs) (suc k) every is = item cs k (λ j d within. every (suc j) d (omega (arith, within))) is
