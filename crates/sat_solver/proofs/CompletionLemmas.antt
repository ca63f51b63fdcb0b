-- Kinds that are ordered by places are in no cycle, so the clauses of their order hold.
use Rattle.std.proofs.Common.{◌≡◌, ◌≢◌, ◌⊎◌, inl, inr, ℕ, ◌+◌, ◌<◌, ◌≤◌, Bool, true, false, List, [], ◌∷◌, Contains, length, get_or, sym, ◌∙◌, subst, arith}
use Rattle.std.proofs.lemmas.Bool.{cases_lt, cond-false, cond-true, le-ltb, lt-ltb}
use Rattle.std.proofs.lemmas.List.Elements.{All-append}
use Rattle.std.specs.Prelude.{nat_lt}
use Rattle.list_base.proofs.Members.{here, there}
use Rattle.clause_core.specs.declared.literal.Lit.{Lit}
use Rattle.clause_core.specs.Assignment.{valuation}
use Rattle.clause_core.specs.Clause.{Satisfies, SatisfiesAll}
use Rattle.clause_core.specs.Literal.{MakesTrue, negated}
use Rattle.order_axioms.specs.declared.order.Order.{Order}
use Rattle.order_axioms.specs.declared.ordered_formula.OrderedFormula.{OrderedFormula}
use Rattle.order_axioms.specs.Formula.{whole}
use Rattle.order_axioms.specs.Order.{AreKinds, AreTwoKinds, ClausesForbidCycles, ForbidsSomeCycle, comes_before, order_list, pair_variable}
use Rattle.sat_solver.specs.Outcome.{IsModel}
use Rattle.sat_solver.specs.inner.Completion.{IsByPlaces}
use Rattle.sat_solver.proofs.NumberLemmas.{number_at}

-- the kind has no later place than another, and an earlier one if it is the lower kind
record IsNoLater (places : List ℕ) (x y : ℕ) : Type 0 where
  at_most : get_or places x 0 ≤ get_or places y 0
  less : x < y → get_or places x 0 < get_or places y 0

-- a kind is no later than another, or the values deny that it comes before
before_or_denied : (order : Order) (v : ℕ → Bool) (places : List ℕ) (x y : ℕ) → IsByPlaces order v places → AreTwoKinds order x y → MakesTrue v (negated (comes_before order x y)) ⊎ IsNoLater places x y
before_or_denied order v places x y by two = elim (cases_lt x y) [
  | inl rising ↦ elim (cases_lt (get_or places x 0) (get_or places y 0)) [
    | inl earlier ↦ inr (record { at_most = omega (arith, earlier); less = λ _. earlier })
    | inr not_earlier ↦
        let same : comes_before order x y ≡ record { var = pair_variable order x y; positive = true } = cond-true (nat_lt x y) _ _ (lt-ltb x y rising) in
        inl (subst (λ l. MakesTrue v (negated l)) (sym same)
        (by.each x two.from_one.0 (omega (arith, rising, two.up_to)) y rising (omega (arith, two.up_to)) ∙ le-ltb (get_or places x 0) (get_or places y 0) not_earlier))
  ]
  | inr not_rising ↦
      let falling : y < x = falls not_rising two.distinct in
      elim (cases_lt (get_or places y 0) (get_or places x 0)) [
        | inl later ↦
            let same : comes_before order x y ≡ record { var = pair_variable order y x; positive = false } = cond-false (nat_lt x y) _ _ (le-ltb x y not_rising) in
            inl (subst (λ l. MakesTrue v (negated l)) (sym same)
            (by.each y two.from_one.1 (omega (arith, falling, two.up_to)) x falling (omega (arith, two.up_to)) ∙ lt-ltb (get_or places y 0) (get_or places x 0) later))
        | inr not_later ↦ inr (record { at_most = not_later; less = λ rising. absurd (omega (arith, rising, falling)) })
      ]
]
  where
    falls : y ≤ x → x ≢ y → y < x
    falls at_most differ = elim (cases_lt y x) [ inl less ↦ less | inr more ↦ absurd (differ (omega (arith, at_most, more))) ]

-- three kinds are not each no later than the next one
no_cycle : (order : Order) (places : List ℕ) (x y z : ℕ) → AreKinds order x y z → IsNoLater places x y → IsNoLater places y z → IsNoLater places z x → ⊥
no_cycle order places x y z kinds xy yz zx =
    elim (cases_lt x y) [
      | inl rising ↦ omega (arith, yz.at_most, zx.at_most, xy.less rising)
      | inr x_falls ↦ elim (cases_lt y z) [
        | inl rising ↦ omega (arith, xy.at_most, zx.at_most, yz.less rising)
        | inr y_falls ↦ elim (cases_lt z x) [
          | inl rising ↦ omega (arith, xy.at_most, yz.at_most, zx.less rising)
          | inr z_falls ↦ kinds.distinct.0 (omega (arith, x_falls, y_falls, z_falls))
        ]
      ]
    ]

-- a clause is satisfied by a true literal
satisfies_by : (v : ℕ → Bool) (clause : List Lit) (l : Lit) → Contains clause l → MakesTrue v l → Satisfies v clause
satisfies_by v clause l among holds = (among.0, l, among.1, among.2, holds)

-- so is each clause that forbids a cycle
satisfies_forbidding : (order : Order) (v : ℕ → Bool) (places : List ℕ) (clause : List Lit) → IsByPlaces order v places → ForbidsSomeCycle order clause → Satisfies v clause
satisfies_forbidding order v places clause by forbids =
    let x = forbids.x in
    let y = forbids.y in
    let z = forbids.z in
    let kinds = forbids.kinds in
    let a = negated (comes_before order x y) in
    let b = negated (comes_before order y z) in
    let c = negated (comes_before order z x) in
    elim (before_or_denied order v places x y by (record { from_one = (kinds.from_one.0, kinds.from_one.1); up_to = (kinds.up_to.0, kinds.up_to.1); distinct = kinds.distinct.0 })) [
      | inl denied ↦ satisfies_by v clause a ((forbids.exactly a).1 (here a (b ∷ c ∷ []))) denied
      | inr xy ↦ elim (before_or_denied order v places y z by (record { from_one = (kinds.from_one.1, kinds.from_one.2); up_to = (kinds.up_to.1, kinds.up_to.2); distinct = kinds.distinct.1 })) [
        | inl denied ↦ satisfies_by v clause b ((forbids.exactly b).1 (there a (b ∷ c ∷ []) b (here b (c ∷ [])))) denied
        | inr yz ↦ elim (before_or_denied order v places z x by (record { from_one = (kinds.from_one.2, kinds.from_one.0); up_to = (kinds.up_to.2, kinds.up_to.0); distinct = kinds.distinct.2 })) [
          | inl denied ↦ satisfies_by v clause c ((forbids.exactly c).1 (there a (b ∷ c ∷ []) c (there b (c ∷ []) c (here c [])))) denied
          | inr zx ↦ absurd (no_cycle order places x y z kinds xy yz zx)
        ]
      ]
    ]

-- all clauses of the order are satisfied
satisfies_order : ClausesForbidCycles → (order : Order) (v : ℕ → Bool) (places : List ℕ) → IsByPlaces order v places → SatisfiesAll v (order_list order)
satisfies_order law order v places by k d within =
    satisfies_forbidding order v places (get_or (order_list order) k d) by
    (law order (k + 1) (get_or (order_list order) k d) (number_at (order_list order) k d within))

-- so the assignment is a model if it satisfies those that are stored
pub IsModel-by_places : ClausesForbidCycles → (f : OrderedFormula) (assignment : List Bool) (places : List ℕ) → length assignment ≡ f.stored.vars → SatisfiesAll (valuation assignment) f.stored.clauses → IsByPlaces f.order (valuation assignment) places → IsModel (whole f) assignment
IsModel-by_places law f assignment places all stored by = record {
  whole = all;
  satisfies = All-append (Satisfies (valuation assignment)) (order_list f.order) f.stored.clauses (satisfies_order law f.order (valuation assignment) places by) stored;
}
