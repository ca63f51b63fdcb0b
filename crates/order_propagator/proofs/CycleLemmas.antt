-- The clauses of an order ascend, so one with the right literals is the order's.
use Rattle.std.proofs.Common.{◌≡◌, inl, inr, ℕ, suc, ◌+◌, ◌-◌, ◌<◌, ◌≤◌, true, false, List, [], ◌∷◌, Contains, refl, sym, ◌∙◌, subst, arith}
use Rattle.std.specs.List.{flat_map, range_with_len}
use Rattle.std.proofs.lemmas.List.Elements.{Contains-append_cases}
use Rattle.std.proofs.lemmas.List.FromFn.{get_or-range_with_len, length-range_with_len}
use Rattle.list_base.proofs.Members.{cons_cases, nowhere, only}
use Rattle.clause_core.specs.declared.literal.Lit.{Lit}
use Rattle.clause_core.specs.Clause.{ClausesAreSets, HasExactly, IsAscending}
use Rattle.clause_core.specs.Numbering.{HasNumber, numbered}
use Rattle.order_axioms.specs.declared.order.Order.{Order}
use Rattle.order_axioms.specs.Order.{AreRising, CycleClausesAscend, ForbidsCycle, cycle_clause, cycles_of_one, cycles_of_three, cycles_of_two, forbidden_cycle, kinds_after, order_list}
use Rattle.order_propagator.proofs.NumberLemmas.{number-among}

-- what is in the pieces of a list is in one of them
in_piece : {A : Type 0} (f : ℕ → List A) (xs : List ℕ) (a : A) → Contains (flat_map f xs) a → (x : ℕ) × Contains xs x × Contains (f x) a
in_piece f [] a among = absurd (nowhere a among)
in_piece f (x ∷ xs) a among = elim (Contains-append_cases (f x) (flat_map f xs) a among) [
  | inl first ↦ (x, (0, omega arith, refl), first)
  | inr later ↦
      let rest = in_piece f xs a later in
      (rest.0, (suc rest.1.0, omega (arith, rest.1.1), rest.1.2), rest.2)
]

-- the kinds of a range are within it
in_range : (a n x : ℕ) → Contains (range_with_len a n) x → (a ≤ x) × (x < a + n)
in_range a n x among =
    let few : among.0 < n = omega (arith, among.1, length-range_with_len a n) in
    let is : a + among.0 ≡ x = sym (get_or-range_with_len a n among.0 x few) ∙ among.2 in
    (omega (arith, is), omega (arith, is, few))

-- each clause of an order ascends
clause_ascends : CycleClausesAscend → (order : Order) (clause : List Lit) → Contains (order_list order) clause → IsAscending clause
clause_ascends law order clause among =
    let one = in_piece (cycles_of_one order) (kinds_after order 0) clause among in
    let two = in_piece (cycles_of_two order one.0) (kinds_after order one.0) clause one.2 in
    let three = in_piece (cycles_of_three order one.0 two.0) (kinds_after order two.0) clause two.2 in
    let i = in_range 1 (order.kinds - 0) one.0 one.1 in
    let j = in_range (one.0 + 1) (order.kinds - one.0) two.0 two.1 in
    let k = in_range (two.0 + 1) (order.kinds - two.0) three.0 three.1 in
    let rising : AreRising order one.0 two.0 three.0 = record {
      from_one = omega (arith, i);
      first = omega (arith, j);
      second = omega (arith, k);
      up_to = omega (arith, k);
    } in
    elim (cons_cases (cycle_clause order false one.0 two.0 three.0) (cycle_clause order true one.0 two.0 three.0 ∷ []) clause three.2) [
      | inl forward ↦ subst IsAscending forward (law order false one.0 two.0 three.0 rising)
      | inr rest ↦ subst IsAscending (only _ clause rest) (law order true one.0 two.0 three.0 rising)
    ]

-- a clause with the literals that forbid a cycle is the one that forbids it
pub is_of_number : CycleClausesAscend → ClausesAreSets → (order : Order) (number x y z : ℕ) (clause : List Lit) → ForbidsCycle order number x y z → IsAscending clause → HasExactly clause (forbidden_cycle order x y z) → HasNumber (numbered (order_list order)) number clause
is_of_number law sets order number x y z clause forbids ascends exactly =
    let of_order = number-among (order_list order) number forbids.clause forbids.has_number in
    let same : forbids.clause ≡ clause = sets forbids.clause clause (clause_ascends law order forbids.clause of_order) ascends (λ l. (λ among. (exactly l).1 ((forbids.exactly l).0 among), λ among. (forbids.exactly l).1 ((exactly l).0 among))) in
    subst (HasNumber (numbered (order_list order)) number) same forbids.has_number
