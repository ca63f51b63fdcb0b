-- The clause that forbids a cycle, whichever of its kinds comes first.
use Rattle.std.proofs.Common.{◌≡◌, ◌⊎◌, inl, inr, ℕ, ◌<◌, true, false, List, [], ◌∷◌, Contains, sym, subst, arith}
use Rattle.std.specs.Prelude.{nat_lt}
use Rattle.std.proofs.lemmas.Bool.{cond-false, cond-true, le-ltb, lt-ltb}
use Rattle.clause_core.specs.declared.literal.Lit.{Lit}
use Rattle.clause_core.specs.Clause.{HasExactly}
use Rattle.clause_core.specs.Literal.{negated}
use Rattle.clause_core.specs.Numbering.{HasNumber, numbered}
use Rattle.list_base.proofs.Members.{cons_cases, here_same, only, there}
use Rattle.order_axioms.specs.declared.order.Order.{Order}
use Rattle.order_axioms.specs.Order.{AreKinds, ForbidsCycle, comes_before, cycle_clause, order_list, pair_variable}

-- one of three literals
abbrev IsOneOf : Lit → Lit → Lit → Lit → Type 0
IsOneOf a b c l = (a ≡ l) ⊎ ((b ≡ l) ⊎ (c ≡ l))

one_of : (a b c l : Lit) → Contains (a ∷ b ∷ c ∷ []) l → IsOneOf a b c l
one_of a b c l among = elim (cons_cases a (b ∷ c ∷ []) l among) [
  | inl first ↦ inl first
  | inr rest ↦ inr (elim (cons_cases b (c ∷ []) l rest) [ inl second ↦ inl second | inr last ↦ inr (only c l last) ])
]

among : (a b c l : Lit) → IsOneOf a b c l → Contains (a ∷ b ∷ c ∷ []) l
among a b c l one = elim one [
  | inl first ↦ here_same a (b ∷ c ∷ []) l first
  | inr rest ↦ there a (b ∷ c ∷ []) l (elim rest [
    | inl second ↦ here_same b (c ∷ []) l second
    | inr third ↦ there b (c ∷ []) l (here_same c [] l third)
  ])
]

-- three literals that are the same, in another order
pub swapped : (a b c : Lit) → HasExactly (a ∷ b ∷ c ∷ []) (a ∷ c ∷ b ∷ [])
swapped a b c l = (
  λ here. elim (one_of a b c l here) [
    | inl first ↦ among a c b l (inl first)
    | inr rest ↦ elim rest [ inl second ↦ among a c b l (inr (inr second)) | inr third ↦ among a c b l (inr (inl third)) ]
  ],
  λ here. elim (one_of a c b l here) [
    | inl first ↦ among a b c l (inl first)
    | inr rest ↦ elim rest [ inl third ↦ among a b c l (inr (inr third)) | inr second ↦ among a b c l (inr (inl second)) ]
  ],
)

pub turned : (a b c : Lit) → HasExactly (a ∷ b ∷ c ∷ []) (b ∷ c ∷ a ∷ [])
turned a b c l = (
  λ here. elim (one_of a b c l here) [
    | inl first ↦ among b c a l (inr (inr first))
    | inr rest ↦ elim rest [ inl second ↦ among b c a l (inl second) | inr third ↦ among b c a l (inr (inl third)) ]
  ],
  λ here. elim (one_of b c a l here) [
    | inl second ↦ among a b c l (inr (inl second))
    | inr rest ↦ elim rest [ inl third ↦ among a b c l (inr (inr third)) | inr first ↦ among a b c l (inl first) ]
  ],
)

-- one kind comes before another of a greater number, or of a lower one
pub before_greater : (order : Order) (x y : ℕ) → x < y → comes_before order x y ≡ record { var = pair_variable order x y; positive = true }
before_greater order x y less = cond-true (nat_lt x y) _ _ (lt-ltb x y less)

pub before_lower : (order : Order) (x y : ℕ) → y < x → comes_before order x y ≡ record { var = pair_variable order y x; positive = false }
before_lower order x y less = cond-false (nat_lt x y) _ _ (le-ltb x y (omega (arith, less)))

-- the literals that forbid a cycle
abbrev literals : Order → ℕ → ℕ → ℕ → List Lit
literals order x y z =
    negated (comes_before order x y) ∷ negated (comes_before order y z) ∷ negated (comes_before order z x) ∷ []

-- a clause of the order forbids the cycle of three rising kinds
pub forbids_forward : (order : Order) (number x y z : ℕ) → x < y → y < z → HasNumber (numbered (order_list order)) number (cycle_clause order false x y z) → ForbidsCycle order number x y z
forbids_forward order number x y z first second has =
    let xy : Lit = record { var = pair_variable order x y; positive = false } in
    let yz : Lit = record { var = pair_variable order y z; positive = false } in
    let xz : Lit = record { var = pair_variable order x z; positive = true } in
    let same : literals order x y z ≡ xy ∷ yz ∷ xz ∷ [] =
    λ n. negated (before_greater order x y first n) ∷ negated (before_greater order y z second n) ∷ negated (before_lower order z x (omega (arith, first, second)) n) ∷ [] in
    record {
      clause = cycle_clause order false x y z;
      has_number = has;
      exactly = subst (HasExactly (cycle_clause order false x y z)) (sym same) (swapped xy xz yz);
    }

-- or that of the least kind, the greatest and the one between them
pub forbids_backward : (order : Order) (number x y z : ℕ) → x < z → z < y → HasNumber (numbered (order_list order)) number (cycle_clause order true x z y) → ForbidsCycle order number x y z
forbids_backward order number x y z first second has =
    let xy : Lit = record { var = pair_variable order x y; positive = false } in
    let zy : Lit = record { var = pair_variable order z y; positive = true } in
    let xz : Lit = record { var = pair_variable order x z; positive = true } in
    let same : literals order x y z ≡ xy ∷ zy ∷ xz ∷ [] =
    λ n. negated (before_greater order x y (omega (arith, first, second)) n) ∷ negated (before_lower order y z second n) ∷ negated (before_lower order z x first n) ∷ [] in
    record {
      clause = cycle_clause order true x z y;
      has_number = has;
      exactly = subst (HasExactly (cycle_clause order true x z y)) (sym same) (turned xz xy zy);
    }

-- a cycle may begin at any of its kinds
pub forbids_turned : (order : Order) (number x y z : ℕ) → ForbidsCycle order number x y z → ForbidsCycle order number y z x
forbids_turned order number x y z forbids =
    let a = negated (comes_before order x y) in
    let b = negated (comes_before order y z) in
    let c = negated (comes_before order z x) in
    record {
      clause = forbids.clause;
      has_number = forbids.has_number;
      exactly = λ l. (
        λ here. (turned a b c l).0 ((forbids.exactly l).0 here),
        λ here. (forbids.exactly l).1 ((turned a b c l).1 here),
      );
    }

-- three kinds may be named from any of them on
pub kinds_turned : (order : Order) (x y z : ℕ) → AreKinds order x y z → AreKinds order y z x
kinds_turned order x y z are = record {
  from_one = (are.from_one.1, are.from_one.2, are.from_one.0);
  up_to = (are.up_to.1, are.up_to.2, are.up_to.0);
  distinct = (are.distinct.1, are.distinct.2, are.distinct.0);
}
