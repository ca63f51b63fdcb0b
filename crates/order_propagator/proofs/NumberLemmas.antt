-- The clauses of a whole formula and their numbers.
use Rattle.std.proofs.Common.{◌≡◌, ◌≢◌, ℕ, zero, suc, ◌+◌, ◌-◌, ◌<◌, ◌≤◌, Option, Some, None, IsSome, IsTrue, List, [], ◌∷◌, ◌⊎◌, ◌↔◌, inl, inr, length, get_or, map, slice_get, sym, ap, refl, ◌∙◌, subst, arith, Contains, length-append}
use Rattle.std.specs.Prelude.{nat_lt}
use Rattle.std.proofs.lemmas.Bool.{cases_eq, cases_lt, lt-ltb, ltb-true, ne_eqb}
use Rattle.std.proofs.lemmas.List.{get_or_append_left, get_or-append-add, get_or_past, length-map}
use Rattle.std.proofs.lemmas.Option.{slice_get-get_or, slice_get_within}
use Rattle.list_base.proofs.Membership.{member_at}
use Rattle.clause_core.specs.declared.literal.Lit.{Lit}
use Rattle.clause_core.specs.Numbering.{numbered, HasNumber, live}
use Rattle.order_axioms.specs.declared.order.Order.{Order}
use Rattle.order_axioms.specs.Order.{order_list}
use Rattle.order_propagator.specs.inner.Names.{HasName, AreNamed, ArePlaces}
use Rattle.order_propagator.specs.inner.Whole.{whole_clauses}

-- number 0 has no clause
live-zero : (clauses : List (Option (List Lit))) (n : ℕ) → n ≡ 0 → live clauses n ≡ None
live-zero clauses n zero_number = rw zero_number refl

-- what another number has
pub live-some : (clauses : List (Option (List Lit))) (n : ℕ) → n ≢ 0 → live clauses n ≡ get_or clauses (n - 1) None
live-some clauses n some = rw (ne_eqb n 0 some) refl

-- a number with a clause is one of the list
pub number_within : (clauses : List (Option (List Lit))) (n : ℕ) (c : List Lit) → live clauses n ≡ Some c → (0 < n) × (n ≤ length clauses)
number_within clauses n c has = elim (cases_eq n 0) [
  | inl is ↦ absurd (let none : None ≡ Some c = sym (live-zero clauses n is) ∙ has in cc)
  | inr some ↦ elim (cases_lt (n - 1) (length clauses)) [
    | inl within ↦ (omega (arith, some), omega (arith, within, some))
    | inr past ↦ absurd (let none : None ≡ Some c = sym (get_or_past clauses (n - 1) None past) ∙ sym (live-some clauses n some) ∙ has in cc)
  ]
]

-- the item of a list of clauses
given-item : (clauses : List (List Lit)) (k : ℕ) → get_or (map (λ c. Some c) clauses) k None ≡ slice_get clauses k
given-item [] k = refl
given-item (c ∷ cs) zero = refl
given-item (c ∷ cs) (suc k) = given-item cs k

-- the item of a mapped list
mapped-item : {X : Type 0} (f : ℕ → Option X) (xs : List ℕ) (k x : ℕ) → slice_get xs k ≡ Some x → get_or (map f xs) k None ≡ f x
mapped-item f [] k x got = cc
mapped-item f (y ∷ xs) zero x got = ap f (let same : y ≡ x = cc in same)
mapped-item f (y ∷ xs) (suc k) x got = mapped-item f xs k x got

-- numbers up to that of the order's last clause have the order's clauses
pub whole-order : (order : Order) (clauses : List (Option (List Lit))) (places : List ℕ) (n : ℕ) → n ≤ length (order_list order) → live (whole_clauses order clauses places) n ≡ numbered (order_list order) n
whole-order order clauses places n few = elim (cases_eq n 0) [
  | inl is ↦ rw is refl
  | inr some ↦ live-some (whole_clauses order clauses places) n some
      ∙ get_or_append_left (map (λ c. Some c) (order_list order)) (map (live clauses) places) None (n - 1) (omega (arith, few, some, length-map (order_list order) (λ c. Some c)))
      ∙ given-item (order_list order) (n - 1) ∙ sym (rw (ne_eqb n 0 some) refl)
]

-- the number after them has the clause at the first place, and so on
pub whole-place : (order : Order) (clauses : List (Option (List Lit))) (places : List ℕ) (index number : ℕ) → slice_get places index ≡ Some number → live (whole_clauses order clauses places) (length (order_list order) + index + 1) ≡ live clauses number
whole-place order clauses places index number got =
    live-some (whole_clauses order clauses places) (length (order_list order) + index + 1) (λ none. omega (arith, none))
    ∙ ap (λ k. get_or (whole_clauses order clauses places) k None) at
    ∙ get_or-append-add (map (λ c. Some c) (order_list order)) (map (live clauses) places) index None
    ∙ mapped-item (live clauses) places index number got
  where
    at : length (order_list order) + index + 1 - 1 ≡ length (map (λ c. Some c) (order_list order)) + index
    at = omega (arith, length-map (order_list order) (λ c. Some c))

-- how many clauses there are
pub whole-length : (order : Order) (clauses : List (Option (List Lit))) (places : List ℕ) → length (whole_clauses order clauses places) ≡ length (order_list order) + length places
whole-length order clauses places = omega (arith, length-append (map (λ c. Some c) (order_list order)) (map (live clauses) places), length-map (order_list order) (λ c. Some c), length-map places (live clauses))

-- where a clause of the whole formula is
pub record IsPlaced (order : Order) (clauses : List (Option (List Lit))) (places : List ℕ) (n : ℕ) : Type 0 where
  pub index : ℕ
  pub number : ℕ
  pub number_is : n ≡ length (order_list order) + index + 1
  pub got : slice_get places index ≡ Some number
  pub same : live (whole_clauses order clauses places) n ≡ live clauses number

-- a number above those of the order's clauses has a place
pub whole-above : (order : Order) (clauses : List (Option (List Lit))) (places : List ℕ) (n : ℕ) → length (order_list order) < n → n ≤ length (order_list order) + length places → IsPlaced order clauses places n
whole-above order clauses places n above within =
    let index = n - length (order_list order) - 1 in
    let inside : index < length places = omega (arith, above, within) in
    let is : n ≡ length (order_list order) + index + 1 = omega (arith, above) in
    let got : slice_get places index ≡ Some (get_or places index 0) = slice_get-get_or places index 0 inside in
    record {
      index = index;
      number = get_or places index 0;
      number_is = is;
      got = got;
      same = ap (live (whole_clauses order clauses places)) is ∙ whole-place order clauses places index (get_or places index 0) got;
    }

-- a clause of the whole formula is one of the order, or has a place
pub whole-cases : (order : Order) (clauses : List (Option (List Lit))) (places : List ℕ) (n : ℕ) (c : List Lit) → HasNumber (live (whole_clauses order clauses places)) n c → HasNumber (numbered (order_list order)) n c ⊎ ((number : ℕ) × HasNumber (live clauses) number c)
whole-cases order clauses places n c has = elim (cases_lt (length (order_list order)) n) [
  | inl above ↦
      let placed = whole-above order clauses places n above (subst (λ k. n ≤ k) (whole-length order clauses places) (number_within (whole_clauses order clauses places) n c has.there).1) in
      inr (placed.number, record { there = sym placed.same ∙ has.there })
  | inr few ↦ inl (record { there = sym (whole-order order clauses places n few) ∙ has.there })
]

-- a clause of the trail has its name in the whole formula
pub whole-named : (order : Order) (clauses : List (Option (List Lit))) (names places : List ℕ) (number name : ℕ) → AreNamed order clauses names → ArePlaces order names places → HasName names number name → live (whole_clauses order clauses places) name ≡ live clauses number
whole-named order clauses names places number name named are_places has = elim (cases_lt (length (order_list order)) name) [
  | inl above ↦
      let is : name ≡ length (order_list order) + (name - length (order_list order) - 1) + 1 = omega (arith, above) in
      ap (live (whole_clauses order clauses places)) is ∙ whole-place order clauses places (name - length (order_list order) - 1) number (are_places.found number name has above)
  | inr few ↦ whole-order order clauses places name few ∙ sym (named.made number name has few)
]

-- each number of a clause has a name
pub name-given : (names : List ℕ) (number : ℕ) → 0 < number → number ≤ length names → HasName names number (get_or names (number - 1) 0)
name-given names number from_one within = record { from_one = from_one; there = slice_get-get_or names (number - 1) 0 (omega (arith, from_one, within)) }

-- the name of a clause of the trail
pub name-of-clause : (order : Order) (clauses : List (Option (List Lit))) (names : List ℕ) (number : ℕ) (c : List Lit) → AreNamed order clauses names → HasNumber (live clauses) number c → HasName names number (get_or names (number - 1) 0)
name-of-clause order clauses names number c named has =
    let within = number_within clauses number c has.there in
    name-given names number within.0 (omega (arith, within, named.all))

-- a place is the number of a clause
pub place_within : (order : Order) (clauses : List (Option (List Lit))) (names places : List ℕ) (index number : ℕ) → AreNamed order clauses names → ArePlaces order names places → slice_get places index ≡ Some number → (0 < number) × (number ≤ length clauses)
place_within order clauses names places index number named are_places got =
    let name = are_places.placed index number got in
    (name.from_one, omega (arith, name.from_one, named.all, slice_get_within names (number - 1) (length (order_list order) + index + 1) name.there))

-- what has a number in a list is one of its clauses
pub number-among : (clauses : List (List Lit)) (n : ℕ) (c : List Lit) → HasNumber (numbered clauses) n c → Contains clauses c
number-among clauses n c has = elim (cases_eq n 0) [
  | inl is ↦ absurd (let none : None ≡ Some c = rw is at has.there in cc)
  | inr some ↦ member_at clauses (n - 1) c (rw (ne_eqb n 0 some) at has.there)
]

-- a number of a list is not past its end
pub numbered-within : (clauses : List (List Lit)) (n : ℕ) (c : List Lit) → HasNumber (numbered clauses) n c → (0 < n) × (n ≤ length clauses)
numbered-within clauses n c has = elim (cases_eq n 0) [
  | inl is ↦ absurd (let none : None ≡ Some c = rw is at has.there in cc)
  | inr some ↦
      let within = slice_get_within clauses (n - 1) c (rw (ne_eqb n 0 some) at has.there) in
      (omega (arith, some), omega (arith, some, within))
]

-- nothing is no clause
not-some : (o : Option (List Lit)) → o ≡ None → IsSome o → ⊥
not-some None is some = cc
not-some (Some c) is some = let clash : Some c ≡ None = is in cc

-- a number up to the last of the order's is that of a clause, unless it is 0
pub has-order : (order : Order) (clauses : List (Option (List Lit))) (places : List ℕ) (n : ℕ) → n ≤ length (order_list order) → IsTrue (nat_lt 0 n) ↔ IsSome (live (whole_clauses order clauses places) n)
has-order order clauses places n few = elim (cases_eq n 0) [
  | inl is ↦ (
    λ above. absurd (omega (arith, ltb-true 0 n above, is)),
    λ some. absurd (not-some (live (whole_clauses order clauses places) n) (ap (live (whole_clauses order clauses places)) is) some),
  )
  | inr other ↦ (
    λ above. subst IsSome (sym (whole-order order clauses places n few ∙ given other)) refl,
    λ some. lt-ltb 0 n (omega (arith, other)),
  )
]
  where
    given : (other : n ≢ 0) → numbered (order_list order) n ≡ Some (get_or (order_list order) (n - 1) [])
    given other = rw (ne_eqb n 0 other) (slice_get-get_or (order_list order) (n - 1) [] (omega (arith, few, other)))

-- a number above them is that of a clause if its place is
pub has-place : (order : Order) (clauses : List (Option (List Lit))) (places : List ℕ) (n number : ℕ) → length (order_list order) < n → slice_get places (n - length (order_list order) - 1) ≡ Some number → live (whole_clauses order clauses places) n ≡ live clauses number
has-place order clauses places n number above got =
    ap (live (whole_clauses order clauses places)) (let is : n ≡ length (order_list order) + (n - length (order_list order) - 1) + 1 = omega (arith, above) in is)
    ∙ whole-place order clauses places (n - length (order_list order) - 1) number got

-- a number past the last place is none
pub has-none : (order : Order) (clauses : List (Option (List Lit))) (places : List ℕ) (n : ℕ) → length (order_list order) < n → length places ≤ n - length (order_list order) - 1 → live (whole_clauses order clauses places) n ≡ None
has-none order clauses places n above past =
    live-some (whole_clauses order clauses places) n (λ none. omega (arith, none, above))
    ∙ get_or_past (whole_clauses order clauses places) (n - 1) None (omega (arith, above, past, whole-length order clauses places))
