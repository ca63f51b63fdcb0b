-- What the cells of a set keep when a literal is put in or taken out.
use Rattle.std.proofs.Common.{◌≡◌, ◌≢◌, ℕ, zero, suc, ◌+◌, ◌-◌, ◌<◌, ◌≤◌, ◌^◌, true, false, List, [], ◌∷◌, ◌++◌, ◌⊎◌, inl, inr, length, take, get_or, set, cond, ltb, sym, ap, refl, ◌∙◌, subst, arith, Contains, length-set, get_or-take, get_or-set_same, get_or-set_other}
use Rattle.std.specs.List.{count_by}
use Rattle.std.specs.List.Sorted.{IsPermutation}
use Rattle.std.proofs.lemmas.Bool.{cases_eq, lt-ltb}
use Rattle.std.proofs.lemmas.List.{get_or_append_left, get_or_push, length_push, length-take-le, get_or_default}
use Rattle.std.proofs.lemmas.List.Elements.{All-push, All-tail, Contains-get_or, at_from_Contains}
use Rattle.std.proofs.lemmas.List.Sorted.{IsPermutation-swap_remove, All-permutation}
use Rattle.std.proofs.lemmas.List.Sums.{sum_by-cons, sum_by-set, count_by-le-length}
use Rattle.clause_core.specs.declared.literal.Lit.{Lit}
use Rattle.clause_core.specs.Literal.{negated}
use Rattle.sat_solver.proofs.LiteralLemmas.{cases_bool, same_literal}
use Rattle.sat_solver.specs.inner.LiteralSet.{IsLiteralSet, TakesOut, HasCells}

-- 1 for a cell that has a position
abbrev weight : ℕ → ℕ
weight n = cond (ltb 0 n) 1 0

-- how many cells have a position
abbrev pub full : List ℕ → ℕ
full positions = count_by (λ n. ltb 0 n) positions

-- a cell without a position leaves room
pub full-lt : (positions : List ℕ) (v : ℕ) → v < length positions → get_or positions v 0 ≡ 0 → full positions < length positions
full-lt [] v within empty = absurd (omega arith)
full-lt (p ∷ positions) zero within empty =
    let head : weight p ≡ 0 = ap weight empty in
    let fewer : full positions ≤ length positions = count_by-le-length (λ n. ltb 0 n) positions in omega (arith, sum_by-cons weight p positions)
full-lt (p ∷ positions) (suc v) within empty =
    let fewer : full positions < length positions = full-lt positions v (omega arith) empty in
    let head : weight p ≤ 1 = elim (ltb 0 p) as (λ b. cond b 1 0 ≤ 1) [ true ↦ omega arith | false ↦ omega arith ] in
    omega (arith, sum_by-cons weight p positions)

-- a position weighs 1
weight-some : (n : ℕ) → 0 < n → weight n ≡ 1
weight-some n some = ap (λ b. cond b 1 0) (lt-ltb 0 n some)

-- how many cells have a position after a write
full-set : (positions : List ℕ) (v n : ℕ) → v < length positions → full (set positions v n) + weight (get_or positions v 0) ≡ full positions + weight n
full-set positions v n within = sum_by-set weight positions v n 0 within

-- two literals of one variable are one, or opposite
cases_variable : (m l : Lit) → m.var ≡ l.var → (m ≡ l) ⊎ (m ≡ negated l)
cases_variable m l same = elim (cases_bool m.positive l.positive) [
  | inl signs ↦ inl (same_literal m l same signs)
  | inr opposite ↦ inr (same_literal m (negated l) same opposite)
]

-- the position of a member
pub position-of : (lits : List Lit) (positions : List ℕ) (l : Lit) → HasCells lits positions → Contains lits l → (k : ℕ) × (k < length lits) × (get_or positions (l.var - 1) 0 ≡ k + 1) × ((d : Lit) → get_or lits k d ≡ l)
position-of lits positions l finds among =
    let at = at_from_Contains lits l among in
    (at.0, at.1, subst (λ (m : Lit). get_or positions (m.var - 1) 0 ≡ at.0 + 1) (at.2 l) (finds.there at.0 l at.1), at.2)

-- if no literal of the variable is in, its cell is empty
pub empty-cell : (lits : List Lit) (positions : List ℕ) (l : Lit) → HasCells lits positions → 0 < l.var → ¬ Contains lits l → ¬ Contains lits (negated l) → get_or positions (l.var - 1) 0 ≡ 0
empty-cell lits positions l finds from_one none no_negation = by-position (get_or positions (l.var - 1) 0) refl
  where
    by-position : (n : ℕ) → get_or positions (l.var - 1) 0 ≡ n → get_or positions (l.var - 1) 0 ≡ 0
    by-position zero is = is
    by-position (suc n) is =
        let there = finds.back (l.var - 1) n l (is ∙ (let next : suc n ≡ n + 1 = omega arith in next)) in
        let among : Contains lits (get_or lits n l) = Contains-get_or lits n l there.0 in
        let same : (get_or lits n l).var ≡ l.var = omega (arith, there.1) in
        elim (cases_variable (get_or lits n l) l same) [
          | inl is_l ↦ absurd (none (subst (Contains lits) is_l among))
          | inr is_negation ↦ absurd (no_negation (subst (Contains lits) is_negation among))
        ]

-- one more literal, whose cell was empty
pub HasCells-push : (lits : List Lit) (positions : List ℕ) (l : Lit) → HasCells lits positions → 0 < l.var → l.var ≤ length positions → get_or positions (l.var - 1) 0 ≡ 0 → HasCells (lits ++ l ∷ []) (set positions (l.var - 1) (length lits + 1))
HasCells-push lits positions l finds from_one exists empty = record {
  exist = rw (length-set positions (l.var - 1) (length lits + 1)) (All-push (λ m. (0 < m.var) × (m.var ≤ length positions)) lits l finds.exist (from_one, exists));
  there = λ k d within. elim (cases_eq k (length lits)) [
    | inl same ↦ rw (get_or_push lits l d k (sym same)) (get_or-set_same positions (l.var - 1) (length lits + 1) 0 (omega arith) ∙ ap (λ n. n + 1) (sym same))
    | inr other ↦
        let before : k < length lits = omega (arith, length_push lits l, other, within) in
        let there : get_or positions ((get_or lits k d).var - 1) 0 ≡ k + 1 = finds.there k d before in
        let differs : (get_or lits k d).var - 1 ≢ l.var - 1 = λ meets. (let clash : k + 1 ≡ 0 = sym there ∙ ap (λ v. get_or positions v 0) meets ∙ empty in omega (arith, clash)) in
        rw (get_or_append_left lits (l ∷ []) d k before) (get_or-set_other positions (l.var - 1) ((get_or lits k d).var - 1) (length lits + 1) 0 differs ∙ there)
  ];
  back = λ v n d is. elim (cases_eq v (l.var - 1)) [
    | inl same ↦
        let new : length lits + 1 ≡ n + 1 = sym (get_or-set_same positions (l.var - 1) (length lits + 1) 0 (omega arith)) ∙ subst (λ u. get_or (set positions (l.var - 1) (length lits + 1)) u 0 ≡ n + 1) same is in
        let at_end : length lits ≡ n = omega (arith, new) in
        (omega (arith, at_end, length_push lits l), rw (get_or_push lits l d n at_end) (omega (arith, same, from_one)))
    | inr other ↦
        let there = finds.back v n d (sym (get_or-set_other positions (l.var - 1) v (length lits + 1) 0 other) ∙ is) in
        (omega (arith, there.0, length_push lits l), rw (get_or_append_left lits (l ∷ []) d n there.0) there.1)
  ];
  counted = omega (arith, full-set positions (l.var - 1) (length lits + 1) (omega arith), finds.counted, length_push lits l, ap weight empty, weight-some (length lits + 1) (omega arith));
}

-- the list after the last literal moved to the position of the one that goes
abbrev pub without : List Lit → ℕ → Lit → List Lit
without lits i last = take (length lits - 1) (set lits i last)

-- the literal at the position is gone, and the others are left
pub permuted : (lits : List Lit) (i : ℕ) (l last : Lit) → i < length lits → ((d : Lit) → get_or lits i d ≡ l) → last ≡ get_or lits (length lits - 1) last → IsPermutation lits (l ∷ without lits i last)
permuted lits i l last within is_l at_end =
    let same : get_or lits (length lits - 1) l ≡ last = get_or_default lits (length lits - 1) l last (omega (arith, within)) ∙ sym at_end in
    subst (λ m. IsPermutation lits (l ∷ without lits i m)) same (IsPermutation-swap_remove lits i l within (sym (is_l l)))

-- how many literals are left
pub length-without : (lits : List Lit) (i : ℕ) (last : Lit) → i < length lits → length (without lits i last) ≡ length lits - 1
length-without lits i last within = length-take-le (length lits - 1) (set lits i last) (omega (arith, length-set lits i last))

-- what is left at a position
pub get_or-without : (lits : List Lit) (i j : ℕ) (last d : Lit) → j < length lits - 1 → get_or (without lits i last) j d ≡ get_or (set lits i last) j d
get_or-without lits i j last d before = get_or-take (length lits - 1) (set lits i last) j d before

-- the cells after the last literal moved
abbrev pub cells_without : List ℕ → ℕ → Lit → Lit → List ℕ
cells_without positions i l last = set (set positions (last.var - 1) (i + 1)) (l.var - 1) 0

-- one literal less: the last one has its position
pub HasCells-remove : (lits : List Lit) (positions : List ℕ) (i : ℕ) (l last : Lit) → HasCells lits positions → i < length lits → ((d : Lit) → get_or lits i d ≡ l) → last ≡ get_or lits (length lits - 1) last → HasCells (without lits i last) (cells_without positions i l last)
HasCells-remove lits positions i l last finds within is_l at_end = record {
  exist = rw (length-set moved (l.var - 1) 0, length-set positions (last.var - 1) (i + 1))
      (All-tail (λ m. (0 < m.var) × (m.var ≤ length positions)) l (without lits i last) (All-permutation (λ m. (0 < m.var) × (m.var ≤ length positions)) lits (l ∷ without lits i last) (permuted lits i l last within is_l at_end) finds.exist));
  there = λ k d left. at-position k d (omega (arith, left, shorter));
  back = λ v n d is. from-cell v n d is (cases_eq v (l.var - 1)) (cases_eq v (last.var - 1));
  counted = omega (arith, shorter, finds.counted, full-set moved (l.var - 1) 0 l_within, full-set positions (last.var - 1) (i + 1) (omega (arith, last_exists)), weight-some (i + 1) (omega arith), ap weight cell_last, weight-some (length lits) (omega (arith, within)), ap weight cell_l);
}
  where
    moved : List ℕ
    moved = set positions (last.var - 1) (i + 1)

    shorter : length (without lits i last) ≡ length lits - 1
    shorter = length-without lits i last within

    l_position : get_or positions (l.var - 1) 0 ≡ i + 1
    l_position = subst (λ (m : Lit). get_or positions (m.var - 1) 0 ≡ i + 1) (is_l l) (finds.there i l within)

    l_exists : (0 < l.var) × (l.var ≤ length positions)
    l_exists = subst (λ (m : Lit). (0 < m.var) × (m.var ≤ length positions)) (is_l l) (finds.exist i l within)

    last_exists : (0 < last.var) × (last.var ≤ length positions)
    last_exists = subst (λ (m : Lit). (0 < m.var) × (m.var ≤ length positions)) (sym at_end) (finds.exist (length lits - 1) last (omega (arith, within)))

    cell_last : get_or positions (last.var - 1) 0 ≡ length lits
    cell_last = subst (λ (m : Lit). get_or positions (m.var - 1) 0 ≡ length lits - 1 + 1) (sym at_end) (finds.there (length lits - 1) last (omega (arith, within)))
        ∙ (let whole : length lits - 1 + 1 ≡ length lits = omega (arith, within) in whole)

    l_within : l.var - 1 < length moved
    l_within = omega (arith, l_exists, length-set positions (last.var - 1) (i + 1))

    cell_l : get_or moved (l.var - 1) 0 ≡ i + 1
    cell_l = elim (cases_eq (l.var - 1) (last.var - 1)) [
      | inl same ↦ rw same (get_or-set_same positions (last.var - 1) (i + 1) 0 (omega (arith, last_exists)))
      | inr other ↦ get_or-set_other positions (last.var - 1) (l.var - 1) (i + 1) 0 other ∙ l_position
    ]

    -- a cell with another position than that of the literal is another one
    differs_l : (v n : ℕ) → get_or positions v 0 ≡ n → n ≢ i + 1 → v ≢ l.var - 1
    differs_l v n is other same = other (sym is ∙ ap (λ u. get_or positions u 0) same ∙ l_position)

    -- a cell with another position than the last is another one
    differs_last : (v n : ℕ) → get_or positions v 0 ≡ n → n ≢ length lits → v ≢ last.var - 1
    differs_last v n is other same = other (sym is ∙ ap (λ u. get_or positions u 0) same ∙ cell_last)

    at-position : (k : ℕ) (d : Lit) → k < length lits - 1 → get_or (cells_without positions i l last) ((get_or (without lits i last) k d).var - 1) 0 ≡ k + 1
    at-position k d before = rw (get_or-without lits i k last d before) (elim (cases_eq k i) [
      | inl same ↦
          rw (same, get_or-set_same lits i last d within)
          (get_or-set_other moved (l.var - 1) (last.var - 1) 0 0 (differs_l (last.var - 1) (length lits) cell_last (λ clash. omega (arith, clash, same, before)))
          ∙ get_or-set_same positions (last.var - 1) (i + 1) 0 (omega (arith, last_exists)))
      | inr other ↦
          let there : get_or positions ((get_or lits k d).var - 1) 0 ≡ k + 1 = finds.there k d (omega (arith, before)) in
          rw (get_or-set_other lits i k last d other)
          (get_or-set_other moved (l.var - 1) ((get_or lits k d).var - 1) 0 0 (differs_l ((get_or lits k d).var - 1) (k + 1) there (λ clash. other (omega (arith, clash))))
          ∙ get_or-set_other positions (last.var - 1) ((get_or lits k d).var - 1) (i + 1) 0 (differs_last ((get_or lits k d).var - 1) (k + 1) there (λ clash. omega (arith, clash, before)))
          ∙ there)
    ])

    from-cell : (v n : ℕ) (d : Lit) → get_or (cells_without positions i l last) v 0 ≡ n + 1 → (v ≡ l.var - 1) ⊎ (v ≢ l.var - 1) → (v ≡ last.var - 1) ⊎ (v ≢ last.var - 1) → (n < length (without lits i last)) × ((get_or (without lits i last) n d).var ≡ v + 1)
    from-cell v n d is (inl gone) of_last =
        let clash : 0 ≡ n + 1 = sym (get_or-set_same moved (l.var - 1) 0 0 l_within) ∙ subst (λ u. get_or (cells_without positions i l last) u 0 ≡ n + 1) gone is in
        absurd (omega (arith, clash))
    from-cell v n d is (inr other) (inl same) =
        let position : i + 1 ≡ n + 1 = sym (get_or-set_same positions (last.var - 1) (i + 1) 0 (omega (arith, last_exists))) ∙ ap (λ u. get_or moved u 0) (sym same) ∙ sym (get_or-set_other moved (l.var - 1) v 0 0 other) ∙ is in
        let not_end : i ≢ length lits - 1 = λ at. other (same ∙ ap (λ (m : Lit). m.var - 1) (at_end ∙ ap (λ j. get_or lits j last) (sym at) ∙ is_l last)) in
        let before : n < length lits - 1 = omega (arith, position, not_end, within) in
        let at : n ≡ i = omega (arith, position) in
        (omega (arith, before, shorter), rw (get_or-without lits i n last d before, at, get_or-set_same lits i last d within) (omega (arith, same, last_exists)))
    from-cell v n d is (inr other) (inr not_last) =
        let there = finds.back v n d (sym (get_or-set_other positions (last.var - 1) v (i + 1) 0 not_last) ∙ sym (get_or-set_other moved (l.var - 1) v 0 0 other) ∙ is) in
        let not_end : n ≢ length lits - 1 = λ at. not_last (omega (arith, there.1, ap (λ (m : Lit). m.var) (at_end ∙ get_or_default lits (length lits - 1) last d (omega (arith, within)) ∙ ap (λ j. get_or lits j d) (sym at)))) in
        let not_i : n ≢ i = λ at. other (omega (arith, there.1, ap (λ (m : Lit). m.var) (ap (λ j. get_or lits j d) at ∙ is_l d))) in
        let before : n < length lits - 1 = omega (arith, there.0, not_end) in
        (omega (arith, before, shorter), rw (get_or-without lits i n last d before, get_or-set_other lits i n last d not_i) there.1)

-- the literals of a set are of different variables
pub IsLiteralSet-finds : (lits : List Lit) (positions : List ℕ) → HasCells lits positions → length lits < 2 ^ 32 → IsLiteralSet (record { vars = length positions; lits = lits })
IsLiteralSet-finds lits positions finds few = record {
  exist = finds.exist;
  distinct = λ i j d before within same. (let clash : i + 1 ≡ j + 1 = sym (finds.there i d (omega (arith, before, within))) ∙ ap (λ v. get_or positions (v - 1) 0) same ∙ finds.there j d within in omega (arith, clash, before));
  few = few;
}

-- what is left has the others, and not the one that went
pub TakesOut-without : (lits : List Lit) (positions : List ℕ) (i : ℕ) (l last : Lit) → HasCells lits positions → i < length lits → ((d : Lit) → get_or lits i d ≡ l) → last ≡ get_or lits (length lits - 1) last → TakesOut lits l (without lits i last)
TakesOut-without lits positions i l last finds within is_l at_end = record {
  others = permuted lits i l last within is_l at_end;
  gone = λ among.
      let at = position-of (without lits i last) (cells_without positions i l last) l (HasCells-remove lits positions i l last finds within is_l at_end) among in
      let l_exists : (0 < l.var) × (l.var ≤ length positions) = subst (λ (m : Lit). (0 < m.var) × (m.var ≤ length positions)) (is_l l) (finds.exist i l within) in
      let clash : at.0 + 1 ≡ 0 = sym at.2 ∙ get_or-set_same (set positions (last.var - 1) (i + 1)) (l.var - 1) 0 0 (omega (arith, l_exists, length-set positions (last.var - 1) (i + 1))) in
      omega (arith, clash);
}
