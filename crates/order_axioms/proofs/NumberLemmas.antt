-- The clause of each number.
use Rattle.std.proofs.Common.{◌≡◌, inl, inr, ℕ, ◌+◌, ◌-◌, ◌*◌, ◌/◌, ◌%◌, ◌<◌, ◌≤◌, Bool, true, false, nat_eq, List, [], ◌∷◌, ◌++◌, length, get_or, take, append_assoc, Some, slice_get, ap, ◌∙◌, sym, arith, refl}
use Rattle.std.specs.Int.{from_bool}
use Rattle.std.specs.List.{range_with_len}
use Rattle.std.proofs.lemmas.Bool.{cases_lt, cond-false, eqb-false, eqb-true, ne_eqb}
use Rattle.std.proofs.lemmas.List.{take_more}
use Rattle.std.proofs.lemmas.Option.{get_or_from_slice_get, slice_get-get_or}
use Rattle.std.proofs.lemmas.List.FromFn.{length-range_with_len}
use Rattle.clause_core.specs.declared.literal.Lit.{Lit}
use Rattle.clause_core.specs.Numbering.{HasNumber, numbered}
use Rattle.order_axioms.specs.declared.order.Order.{Order}
use Rattle.order_axioms.specs.Order.{AreRising, cycle_clause, cycles_of_one, cycles_of_three, cycles_of_two, order_list}
use Rattle.order_axioms.specs.inner.Starts.{IsReached, cycle_start, pair_start}
use Rattle.order_axioms.proofs.PieceLemmas.{length_of_twos, piece_at}
use Rattle.order_axioms.proofs.StartLemmas.{cycle_start_more, cycle_start_small, cycle_starts_rise, cycles_length, one_length, order_length, pair_start_more, pair_starts_rise, pairs_length, two_length}

-- the index of a clause, by its kinds and its direction
abbrev pub index_of : ℕ → Bool → ℕ → ℕ → ℕ → ℕ
index_of kinds backward i j k =
    cycle_start kinds (i - 1) + (pair_start kinds (j - 1) - pair_start kinds i) + 2 * (k - j - 1) + from_bool backward

direction_small : (backward : Bool) → from_bool backward ≤ 1
direction_small true = omega arith
direction_small false = omega arith

-- of the two clauses of three kinds
three_at : (order : Order) (backward : Bool) (i j k : ℕ) (e : List Lit) → get_or (cycles_of_three order i j k) (from_bool backward) e ≡ cycle_clause order backward i j k
three_at order true i j k e = refl
three_at order false i j k e = refl

-- of those of two kinds
two_at : (order : Order) (backward : Bool) (i j k : ℕ) (e : List Lit) → AreRising order i j k → get_or (cycles_of_two order i j) (2 * (k - j - 1) + from_bool backward) e ≡ cycle_clause order backward i j k
two_at order backward i j k e rising =
    let first = rising.first in
    let second = rising.second in
    let up_to = rising.up_to in
    let small = direction_small backward in
    let before = length_of_twos (cycles_of_three order i j) (range_with_len (j + 1) (k - (j + 1))) (λ _. refl) in
    let many = length-range_with_len (j + 1) (k - (j + 1)) in
    piece_at (cycles_of_three order i j) (j + 1) (order.kinds - j) k (from_bool backward) (2 * (k - j - 1) + from_bool backward) e
    (omega (arith, second)) (omega (arith, second, up_to)) (omega (arith, small)) (omega (arith, before, many)) ∙
    three_at order backward i j k e

-- of those of one kind
one_at : (order : Order) (backward : Bool) (i j k : ℕ) (e : List Lit) → AreRising order i j k → get_or (cycles_of_one order i) (pair_start order.kinds (j - 1) - pair_start order.kinds i + (2 * (k - j - 1) + from_bool backward)) e ≡ cycle_clause order backward i j k
one_at order backward i j k e rising =
    let first = rising.first in
    let second = rising.second in
    let up_to = rising.up_to in
    let small = direction_small backward in
    let inside = two_length order i j in
    let before = pairs_length order i i (j - (i + 1)) in
    let to : i + (j - (i + 1)) ≡ j - 1 = omega (arith, first) in
    piece_at (cycles_of_two order i) (i + 1) (order.kinds - i) j (2 * (k - j - 1) + from_bool backward) (pair_start order.kinds (j - 1) - pair_start order.kinds i + (2 * (k - j - 1) + from_bool backward)) e
    (omega (arith, first)) (omega (arith, first, second, up_to)) (omega (arith, inside, small, second, up_to)) (omega (arith, before, ap (pair_start order.kinds) to)) ∙
    two_at order backward i j k e rising

-- of all
pub order_at : (order : Order) (backward : Bool) (i j k : ℕ) (e : List Lit) → AreRising order i j k → (index_of order.kinds backward i j k < length (order_list order)) × (get_or (order_list order) (index_of order.kinds backward i j k) e ≡ cycle_clause order backward i j k)
order_at order backward i j k e rising =
    let from = rising.from_one in
    let first = rising.first in
    let second = rising.second in
    let up_to = rising.up_to in
    let kinds = order.kinds in
    let small = direction_small backward in
    let within = pair_starts_rise kinds i (j - 1) (omega (arith, first)) in
    let last = pair_start_more kinds (j - 1) in
    let at_j : j - 1 + 1 ≡ j = omega (arith, first) in
    let to_end = pair_starts_rise kinds j kinds (omega (arith, second, up_to)) in
    let one = one_length order i (omega (arith, first, second, up_to)) in
    let inner = pair_start kinds (j - 1) - pair_start kinds i + (2 * (k - j - 1) + from_bool backward) in
    let inside : inner < length (cycles_of_one order i) =
    omega (arith, small, within, last, ap (pair_start kinds) at_j, to_end, one, first, second, up_to) in
    let before = cycles_length order 0 (i - 1) (omega (arith, first, second, up_to)) in
    let none : 0 + (i - 1) ≡ i - 1 = omega arith in
    let next = cycle_start_more kinds (i - 1) in
    let at_i : i - 1 + 1 ≡ i = omega (arith, from) in
    let rest = cycle_starts_rise kinds i kinds (omega (arith, first, second, up_to)) in (
      omega (arith, inside, one, order_length order, next, ap (cycle_start kinds) at_i, ap (pair_start kinds) at_i, rest),
      piece_at (cycles_of_one order) 1 (kinds - 0) i inner (index_of kinds backward i j k) e
          from (omega (arith, first, second, up_to)) inside (omega (arith, before, ap (cycle_start kinds) none)) ∙
          one_at order backward i j k e rising,
    )

-- the clause at an index has the next number
pub number_at : (clauses : List (List Lit)) (index number : ℕ) (clause : List Lit) → number ≡ index + 1 → index < length clauses → get_or clauses index [] ≡ clause → HasNumber (numbered clauses) number clause
number_at clauses index number clause is within at =
    let back : number - 1 ≡ index = omega (arith, is) in
    record { there = cond-false _ _ _ (ne_eqb number 0 (λ zero. omega (arith, is, zero))) ∙ ap (slice_get clauses) back ∙ slice_get-get_or clauses index [] within ∙ ap Some at }

-- the number of three rising kinds
pub rising_number : (order : Order) (backward : Bool) (i j k number : ℕ) → AreRising order i j k → number ≡ index_of order.kinds backward i j k + 1 → HasNumber (numbered (order_list order)) number (cycle_clause order backward i j k)
rising_number order backward i j k number rising is =
    let at = order_at order backward i j k [] rising in
    number_at (order_list order) (index_of order.kinds backward i j k) number (cycle_clause order backward i j k) is at.0 at.1

-- what is left of an index after the clauses of earlier first kinds, counted from before all kinds
pub rest_below : (kinds index i : ℕ) → IsReached kinds (cycle_start kinds) index i → (pair_start kinds i ≤ index - cycle_start kinds (i - 1) + pair_start kinds i) × (index - cycle_start kinds (i - 1) + pair_start kinds i < pair_start kinds kinds)
rest_below kinds index i reached =
    let some = reached.some in
    let before = reached.before in
    let after = reached.after in
    let back : i - 1 + 1 ≡ i = omega (arith, some) in (
      omega arith,
      omega (arith, before, after, cycle_start_more kinds (i - 1), ap (cycle_start kinds) back, ap (pair_start kinds) back, pair_starts_rise kinds i kinds reached.up_to),
    )

-- the kinds of a clause, by its index
pub record AreFound (order : Order) (index i j k past : ℕ) : Type 0 where
  pub rising : AreRising order i j k
  pub is : index ≡ cycle_start order.kinds (i - 1) + (pair_start order.kinds (j - 1) - pair_start order.kinds i) + 2 * (k - j - 1) + past % 2

pub kinds_found : (order : Order) (index i rest j past k : ℕ) → IsReached order.kinds (cycle_start order.kinds) index i → rest ≡ index - cycle_start order.kinds (i - 1) + pair_start order.kinds i → IsReached order.kinds (pair_start order.kinds) rest j → past ≡ rest - pair_start order.kinds (j - 1) → k ≡ j + 1 + past / 2 → AreFound order index i j k past
kinds_found order index i rest j past k reached is_rest pair_reached is_past is_k =
    let kinds = order.kinds in
    let some = reached.some in
    let before = reached.before in
    let some_j = pair_reached.some in
    let from_j = pair_reached.before in
    let to_j = pair_reached.after in
    let within = pair_reached.up_to in
    let back : j - 1 + 1 ≡ j = omega (arith, some_j) in
    let later : i < j = elim (cases_lt i j) [
      | inl less ↦ less
      | inr past_it ↦ absurd (omega (arith, pair_starts_rise kinds j i past_it, is_rest, to_j))
    ] in
    let short : past < 2 * (kinds - j) = omega (arith, is_past, from_j, to_j, pair_start_more kinds (j - 1), ap (pair_start kinds) back, back) in
    record {
      rising = record {
        from_one = some;
        first = later;
        second = omega (arith, is_k);
        up_to = omega (arith, is_k, short);
      };
      is = omega (arith, is_rest, before, is_past, from_j, pair_starts_rise kinds i (j - 1) (omega (arith, later)), is_k);
    }

-- so the clause of a number is found
pub found_number : (order : Order) (number index i j k past : ℕ) (backward : Bool) → number ≡ index + 1 → backward ≡ nat_eq (past % 2) 1 → AreFound order index i j k past → HasNumber (numbered (order_list order)) number (cycle_clause order backward i j k)
found_number order number index i j k past backward is_number is_backward found =
    let is = found.is in
    rising_number order backward i j k number found.rising (omega (arith, is_number, is, remainder past backward is_backward))
  where
    remainder : (past : ℕ) (backward : Bool) → backward ≡ nat_eq (past % 2) 1 → from_bool backward ≡ past % 2
    remainder past true is = sym (eqb-true (past % 2) 1 (sym is))
    remainder past false is = let other = eqb-false (past % 2) 1 (sym is) in omega arith

-- a number of a clause is small
pub index_small : (order : Order) (backward : Bool) (i j k : ℕ) → AreRising order i j k → index_of order.kinds backward i j k < 8388608
index_small order backward i j k rising =
    omega (arith, (order_at order backward i j k [] rising).0, order_length order, cycle_start_small order.kinds order.kinds order.few_kinds, order.few_kinds)

-- one clause more of a list that is copied in the order of the numbers
pub copied_next : (all old clauses new : List (List Lit)) (index : ℕ) (clause : List Lit) → index < length all → clauses ≡ old ++ take index all → HasNumber (numbered all) (index + 1) clause → new ≡ clauses ++ clause ∷ [] → new ≡ old ++ take (index + 1) all
copied_next all old clauses new index clause within so_far has is =
    let back : index + 1 - 1 ≡ index = omega arith in
    let there : slice_get all index ≡ Some clause =
    ap (slice_get all) (sym back) ∙ sym (cond-false _ _ _ (ne_eqb (index + 1) 0 (λ zero. omega (arith, zero)))) ∙ has.there in
    let at = get_or_from_slice_get all index clause clause there in
    is ∙ (λ n. so_far n ++ sym at n ∷ []) ∙ append_assoc old (take index all) (get_or all index clause ∷ []) ∙
    ap (λ (rest : List (List Lit)). old ++ rest) (sym (take_more all index clause within))
