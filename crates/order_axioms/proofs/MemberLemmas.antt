-- Each clause of an order is that of three rising kinds, and forbids a cycle of them.
use Rattle.std.proofs.Common.{◌≡◌, inl, inr, ℕ, suc, ◌+◌, ◌-◌, ◌<◌, ◌≤◌, Bool, true, false, List, [], ◌∷◌, Contains, Some, None, refl, sym, ap, ◌∙◌, subst, arith}
use Rattle.std.specs.List.{flat_map, range_with_len}
use Rattle.std.proofs.lemmas.Bool.{cases_eq, cond-false, cond-true, eq-eqb, ne_eqb}
use Rattle.std.proofs.lemmas.List.Elements.{Contains-append_cases}
use Rattle.std.proofs.lemmas.List.FromFn.{get_or-range_with_len, length-range_with_len}
use Rattle.list_base.proofs.Members.{cons_cases, nowhere, only}
use Rattle.list_base.proofs.Membership.{member_at}
use Rattle.clause_core.specs.declared.literal.Lit.{Lit}
use Rattle.clause_core.specs.Clause.{HasExactly}
use Rattle.clause_core.specs.Numbering.{HasNumber, numbered}
use Rattle.order_axioms.specs.declared.order.Order.{Order}
use Rattle.order_axioms.specs.Order.{AreKinds, AreRising, ForbidsSomeCycle, cycle_clause, cycles_of_one, cycles_of_three, cycles_of_two, forbidden_cycle, kinds_after, order_list}
use Rattle.order_axioms.proofs.CoverLemmas.{three_variables}
use Rattle.order_axioms.proofs.CycleLemmas.{forbids_backward, forbids_forward}

-- what is in the pieces of a list is in one of them
piece_of : {A : Type 0} (f : ℕ → List A) (xs : List ℕ) (a : A) → Contains (flat_map f xs) a → (x : ℕ) × Contains xs x × Contains (f x) a
piece_of f [] a among = absurd (nowhere a among)
piece_of f (x ∷ xs) a among = elim (Contains-append_cases (f x) (flat_map f xs) a among) [
  | inl first ↦ (x, (0, omega arith, refl), first)
  | inr later ↦
      let rest = piece_of f xs a later in
      (rest.0, (suc rest.1.0, omega (arith, rest.1.1), rest.1.2), rest.2)
]

-- the kinds of a range are within it
within_range : (a n x : ℕ) → Contains (range_with_len a n) x → (a ≤ x) × (x < a + n)
within_range a n x among =
    let few : among.0 < n = omega (arith, among.1, length-range_with_len a n) in
    let is : a + among.0 ≡ x = sym (get_or-range_with_len a n among.0 x few) ∙ among.2 in
    (omega (arith, is), omega (arith, is, few))

-- a clause of an order, by its kinds and its direction
pub record IsOfThree (order : Order) (clause : List Lit) : Type 0 where
  pub backward : Bool
  pub i : ℕ
  pub j : ℕ
  pub k : ℕ
  pub rising : AreRising order i j k
  pub is : cycle_clause order backward i j k ≡ clause

of_three : (order : Order) (clause : List Lit) → Contains (order_list order) clause → IsOfThree order clause
of_three order clause among =
    let one = piece_of (cycles_of_one order) (kinds_after order 0) clause among in
    let two = piece_of (cycles_of_two order one.0) (kinds_after order one.0) clause one.2 in
    let three = piece_of (cycles_of_three order one.0 two.0) (kinds_after order two.0) clause two.2 in
    let i = within_range 1 (order.kinds - 0) one.0 one.1 in
    let j = within_range (one.0 + 1) (order.kinds - one.0) two.0 two.1 in
    let k = within_range (two.0 + 1) (order.kinds - two.0) three.0 three.1 in
    let rising : AreRising order one.0 two.0 three.0 = record {
      from_one = omega (arith, i);
      first = omega (arith, j);
      second = omega (arith, k);
      up_to = omega (arith, k);
    } in
    elim (cons_cases (cycle_clause order false one.0 two.0 three.0) (cycle_clause order true one.0 two.0 three.0 ∷ []) clause three.2) [
      | inl forward ↦ record { backward = false; i = one.0; j = two.0; k = three.0; rising = rising; is = forward }
      | inr rest ↦ record { backward = true; i = one.0; j = two.0; k = three.0; rising = rising; is = only _ clause rest }
    ]

-- the clause of a number is a member
numbered_member : (clauses : List (List Lit)) (number : ℕ) (clause : List Lit) → HasNumber (numbered clauses) number clause → Contains clauses clause
numbered_member clauses number clause has = elim (cases_eq number 0) [
  | inl is ↦ absurd (let none : None ≡ Some clause = sym (cond-true _ _ _ (eq-eqb number 0 is)) ∙ has.there in cc)
  | inr other ↦ member_at clauses (number - 1) clause (sym (cond-false _ _ _ (ne_eqb number 0 other)) ∙ has.there)
]

-- so it forbids a cycle
pub clause_forbids : (order : Order) (number : ℕ) (clause : List Lit) → HasNumber (numbered (order_list order)) number clause → ForbidsSomeCycle order clause
clause_forbids order number clause has = by_direction three.backward refl
  where
    three : IsOfThree order clause
    three = of_three order clause (numbered_member (order_list order) number clause has)

    there : (backward : Bool) → three.backward ≡ backward → HasNumber (numbered (order_list order)) number (cycle_clause order backward three.i three.j three.k)
    there backward is = record { there = has.there ∙ ap Some (sym three.is ∙ ap (λ b. cycle_clause order b three.i three.j three.k) is) }

    by_direction : (backward : Bool) → three.backward ≡ backward → ForbidsSomeCycle order clause
    by_direction false is =
        let forbids = forbids_forward order number three.i three.j three.k three.rising.first three.rising.second (there false is) in
        record {
          x = three.i;
          y = three.j;
          z = three.k;
          kinds = kinds three.i three.j three.k three.rising;
          exactly = subst (λ c. HasExactly c (forbidden_cycle order three.i three.j three.k)) (same forbids.clause forbids.has_number) forbids.exactly;
          apart = three_variables order three.i three.j three.k (kinds three.i three.j three.k three.rising);
        }
      where
        kinds : (i j k : ℕ) → AreRising order i j k → AreKinds order i j k
        kinds i j k rising = record {
          from_one = (omega (arith, rising.from_one), omega (arith, rising.from_one, rising.first), omega (arith, rising.second));
          up_to = (omega (arith, rising.first, rising.second, rising.up_to), omega (arith, rising.second, rising.up_to), omega (arith, rising.up_to));
          distinct = (λ e. omega (arith, rising.first, e), λ e. omega (arith, rising.second, e), λ e. omega (arith, rising.first, rising.second, e));
        }

        same : (c : List Lit) → HasNumber (numbered (order_list order)) number c → c ≡ clause
        same c other = let both : Some c ≡ Some clause = sym other.there ∙ has.there in let one : c ≡ clause = cc in one
    by_direction true is =
        let forbids = forbids_backward order number three.i three.k three.j (omega (arith, three.rising.first)) three.rising.second (there true is) in
        record {
          x = three.i;
          y = three.k;
          z = three.j;
          kinds = kinds three.i three.j three.k three.rising;
          exactly = subst (λ c. HasExactly c (forbidden_cycle order three.i three.k three.j)) (same forbids.clause forbids.has_number) forbids.exactly;
          apart = three_variables order three.i three.k three.j (kinds three.i three.j three.k three.rising);
        }
      where
        kinds : (i j k : ℕ) → AreRising order i j k → AreKinds order i k j
        kinds i j k rising = record {
          from_one = (omega (arith, rising.from_one), omega (arith, rising.second), omega (arith, rising.from_one, rising.first));
          up_to = (omega (arith, rising.first, rising.second, rising.up_to), omega (arith, rising.up_to), omega (arith, rising.second, rising.up_to));
          distinct = (λ e. omega (arith, rising.first, rising.second, e), λ e. omega (arith, rising.second, e), λ e. omega (arith, rising.first, e));
        }

        same : (c : List Lit) → HasNumber (numbered (order_list order)) number c → c ≡ clause
        same c other = let both : Some c ≡ Some clause = sym other.there ∙ has.there in let one : c ≡ clause = cc in one
