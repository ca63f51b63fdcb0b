-- What is left to do with the clauses of an order under the values of a trail.
use Rattle.std.proofs.Common.{◌≡◌, ◌≢◌, ◌⊎◌, inl, inr, ℕ, ◌-◌, ◌<◌, Bool, Option, Some, None, List, [], ◌∷◌, All, Contains, get_or, refl, sym, ap, ◌∙◌, subst, arith}
use Rattle.std.proofs.lemmas.Bool.{cases_eq}
use Rattle.std.proofs.lemmas.List.Elements.{All-contains}
use Rattle.clause_core.specs.declared.literal.Lit.{Lit}
use Rattle.clause_core.specs.Literal.{negated}
use Rattle.clause_core.specs.Clause.{HasExactly}
use Rattle.clause_core.specs.Numbering.{HasNumber, Numbering, numbered}
use Rattle.clause_core.specs.Propagation.{Falsifies, IsPropagated, LeavesOnly, MakesFalse}
use Rattle.order_axioms.specs.declared.order.Order.{Order}
use Rattle.order_axioms.specs.Order.{AreKinds, ClausesForbidCycles, ForbidsCycle, ForbidsSomeCycle, comes_before, forbidden_cycle, order_list}
use Rattle.sat_trail.specs.Entry.{up_to, values_of}
use Rattle.sat_trail.specs.State.{State}
use Rattle.sat_trail.specs.Trail.{HasTwoOpen, IsOpen, IsTrail}
use Rattle.order_propagator.specs.inner.Closed.{IsClosed, IsSetTrue, IsTransitive, IsTransitiveBelow, Precedes}
use Rattle.order_propagator.proofs.LiteralLemmas.{AreKinds-turned, ForbidsCycle-turned as turned, all_false, cases_sign, denial_fails, denied_holds, first_among, one_of, other_way, second_among, third_among, true_false, true_unset}
use Rattle.order_propagator.proofs.LowerLemmas.{open_or_low, true_low}

-- a clause that forbids a cycle forbids it from its last kind on
pub ForbidsCycle-turned : (order : Order) (number x y z : ℕ) → ForbidsCycle order number x y z → ForbidsCycle order number z x y
ForbidsCycle-turned order number x y z forbids = turned order number x y z forbids

-- a clause of two kinds after one another, by which the third follows if nothing is left to do with it
by_clause : (order : Order) (values : ℕ → Option Bool) (numbering : Numbering) (number x y z : ℕ) (clause : List Lit) → IsPropagated values numbering → HasNumber numbering number clause → HasExactly clause (forbidden_cycle order x y z) → z ≢ x → Precedes order values x y → Precedes order values y z → Precedes order values x z
by_clause order values numbering number x y z clause propagated has exactly differ first second =
    by (values (comes_before order z x).var) refl
  where
    a : Lit
    a = negated (comes_before order x y)

    b : Lit
    b = negated (comes_before order y z)

    c : Lit
    c = negated (comes_before order z x)

    fails : (l : Lit) → Contains clause l → (c ≡ l → MakesFalse values l) → MakesFalse values l
    fails l among last = elim (one_of a b c l ((exactly l).0 among)) [
      | inl is ↦ subst (MakesFalse values) is (denial_fails values (comes_before order x y) first)
      | inr rest ↦ elim rest [
        | inl is ↦ subst (MakesFalse values) is (denial_fails values (comes_before order y z) second)
        | inr is ↦ last is
      ]
    ]

    by : (o : Option Bool) → values (comes_before order z x).var ≡ o → Precedes order values x z
    by None is = absurd (propagated.no_unit number clause c has (record {
      among = (exactly c).1 (third_among a b c);
      no_value = is;
      others = λ l among other. fails l among (λ same. absurd (other (sym same)));
    }))
    by (Some value) is = elim (cases_sign value (comes_before order z x).positive) [
      | inl same ↦
          let back : IsSetTrue values (comes_before order z x) = is ∙ ap Some same in
          absurd (propagated.no_false number clause has (all_false values clause
          (λ l among. fails l among (λ same. subst (MakesFalse values) same (denial_fails values (comes_before order z x) back)))))
      | inr opposite ↦ subst (IsSetTrue values) (other_way order x z differ) (is ∙ ap Some opposite)
    ]

-- closed under all values, and the clauses that are made are propagated: transitive
pub rest_transitive : (order : Order) (names : List ℕ) (numbering : Numbering) (values : ℕ → Option Bool) → IsClosed order names values values → ((name : ℕ) (clause : List Lit) → Contains names name → HasNumber (numbered (order_list order)) name clause → (number : ℕ) × HasNumber numbering number clause) → IsPropagated values numbering → IsTransitive order values
rest_transitive order names numbering values closed made propagated x y z kinds first second =
    elim (closed.follows x y z kinds first second) [
      | inl follows ↦ follows
      | inr is_made ↦
          let forbids = is_made.forbids in
          let there = made is_made.number forbids.clause is_made.among forbids.has_number in
          by_clause order values numbering there.0 x y z forbids.clause propagated there.1 forbids.exactly kinds.distinct.2 first second
    ]

-- what denies a literal that follows is true
denied_follows : (order : Order) (values : ℕ → Option Bool) (x z : ℕ) → z ≢ x → Precedes order values x z → IsSetTrue values (negated (comes_before order z x))
denied_follows order values x z differ follows = subst (IsSetTrue values) (sym (other_way order x z differ)) follows

-- the last literal of a cycle is not the one that is left
not_left : (order : Order) (values : ℕ → Option Bool) (x y z : ℕ) (l : Lit) → IsTransitive order values → AreKinds order x y z → negated (comes_before order z x) ≡ l → values l.var ≡ None → Precedes order values x y → Precedes order values y z → ⊥
not_left order values x y z l transitive kinds is unset first second =
    true_unset values l (subst (IsSetTrue values) is (denied_follows order values x z kinds.distinct.2 (transitive x y z kinds first second))) unset

-- so none of an order's clauses is false
none_false : (order : Order) (values : ℕ → Option Bool) (clause : List Lit) → IsTransitive order values → ForbidsSomeCycle order clause → ¬ Falsifies values clause
none_false order values clause transitive some falsified =
    let x = some.x in
    let y = some.y in
    let z = some.z in
    let third = holds (comes_before order z x) (third_among (negated (comes_before order x y)) (negated (comes_before order y z)) (negated (comes_before order z x))) in
    true_false values (negated (comes_before order z x))
    (denied_follows order values x z some.kinds.distinct.2 (transitive x y z some.kinds
    (holds (comes_before order x y) (first_among (negated (comes_before order x y)) (negated (comes_before order y z)) (negated (comes_before order z x))))
    (holds (comes_before order y z) (second_among (negated (comes_before order x y)) (negated (comes_before order y z)) (negated (comes_before order z x))))))
    (denial_fails values (comes_before order z x) third)
  where
    holds : (l : Lit) → Contains (forbidden_cycle order some.x some.y some.z) (negated l) → IsSetTrue values l
    holds l among = denied_holds values l (All-contains (MakesFalse values) clause (negated l) falsified ((some.exactly (negated l)).1 among))

-- and none has one literal left
none_left : (order : Order) (values : ℕ → Option Bool) (clause : List Lit) (l : Lit) → IsTransitive order values → ForbidsSomeCycle order clause → ¬ LeavesOnly values clause l
none_left order values clause l transitive some leaves = elim (one_of a b c l ((some.exactly l).0 leaves.among)) [
  | inl is ↦ not_left order values some.y some.z some.x l transitive (AreKinds-turned order some.x some.y some.z some.kinds) is leaves.no_value
      (holds (comes_before order some.y some.z) (second_among a b c) (λ same. apart 0 1 (omega arith) (omega arith) (ap (λ (m : Lit). m.var) (is ∙ sym same))))
      (holds (comes_before order some.z some.x) (third_among a b c) (λ same. apart 0 2 (omega arith) (omega arith) (ap (λ (m : Lit). m.var) (is ∙ sym same))))
  | inr rest ↦ elim rest [
    | inl is ↦ not_left order values some.z some.x some.y l transitive (AreKinds-turned order some.y some.z some.x (AreKinds-turned order some.x some.y some.z some.kinds)) is leaves.no_value
        (holds (comes_before order some.z some.x) (third_among a b c) (λ same. apart 1 2 (omega arith) (omega arith) (ap (λ (m : Lit). m.var) (is ∙ sym same))))
        (holds (comes_before order some.x some.y) (first_among a b c) (λ same. apart 0 1 (omega arith) (omega arith) (ap (λ (m : Lit). m.var) (same ∙ sym is))))
    | inr is ↦ not_left order values some.x some.y some.z l transitive some.kinds is leaves.no_value
        (holds (comes_before order some.x some.y) (first_among a b c) (λ same. apart 0 2 (omega arith) (omega arith) (ap (λ (m : Lit). m.var) (same ∙ sym is))))
        (holds (comes_before order some.y some.z) (second_among a b c) (λ same. apart 1 2 (omega arith) (omega arith) (ap (λ (m : Lit). m.var) (same ∙ sym is))))
  ]
]
  where
    a : Lit
    a = negated (comes_before order some.x some.y)

    b : Lit
    b = negated (comes_before order some.y some.z)

    c : Lit
    c = negated (comes_before order some.z some.x)

    apart : (i j : ℕ) → i < j → j < 3 → (get_or (a ∷ b ∷ c ∷ []) i a).var ≢ (get_or (a ∷ b ∷ c ∷ []) j a).var
    apart i j before within = some.apart i j a before (omega (arith, within))

    holds : (m : Lit) → Contains (a ∷ b ∷ c ∷ []) (negated m) → negated m ≢ l → IsSetTrue values m
    holds m among other = denied_holds values m (leaves.others (negated m) ((some.exactly (negated m)).1 among) other)

-- transitive values leave nothing to the order's clauses
pub transitive_propagated : (order : Order) (values : ℕ → Option Bool) → ClausesForbidCycles → IsTransitive order values → IsPropagated values (numbered (order_list order))
transitive_propagated order values law transitive = record {
  no_false = λ number clause has. none_false order values clause transitive (law order number clause has);
  no_unit = λ number clause l has. none_left order values clause l transitive (law order number clause has);
}

-- of a cycle whose first two literals hold up to a lower level, the third one's denial is true
denied_low : (order : Order) (t : State) (level x y z : ℕ) → IsTrail t → IsTransitive order (values_of (up_to level t.entries)) → AreKinds order x y z → MakesFalse (values_of (up_to level t.entries)) (negated (comes_before order x y)) → MakesFalse (values_of (up_to level t.entries)) (negated (comes_before order y z)) → IsSetTrue (values_of t.entries) (negated (comes_before order z x))
denied_low order t level x y z trail transitive kinds first second =
    let low = values_of (up_to level t.entries) in
    true_low t level (negated (comes_before order z x)) trail
    (denied_follows order low x z kinds.distinct.2 (transitive x y z kinds (denied_holds low (comes_before order x y) first) (denied_holds low (comes_before order y z) second)))

-- of a clause without a true literal two are open: if two were false up to lower levels, the third would be true there
open_above : (order : Order) (t : State) (clause : List Lit) → IsTrail t → 0 < t.level → IsTransitive order (values_of (up_to (t.level - 1) t.entries)) → ForbidsSomeCycle order clause → All (λ l. ¬ IsSetTrue (values_of t.entries) l) clause → HasTwoOpen t.entries t.level clause
open_above order t clause trail above transitive some none_true =
    elim (place a (first_among a b c)) [
      | inl a_open ↦ elim (place b (second_among a b c)) [
        | inl b_open ↦ two a b (first_among a b c) (second_among a b c) (λ same. some.apart 0 1 a (omega arith) (omega arith) (ap (λ (l : Lit). l.var) same)) a_open b_open
        | inr b_low ↦ elim (place c (third_among a b c)) [
          | inl c_open ↦ two a c (first_among a b c) (third_among a b c) (λ same. some.apart 0 2 a (omega arith) (omega arith) (ap (λ (l : Lit). l.var) same)) a_open c_open
          | inr c_low ↦ absurd (untrue a (first_among a b c) (denied_low order t (t.level - 1) some.y some.z some.x trail transitive (AreKinds-turned order some.x some.y some.z some.kinds) b_low c_low))
        ]
      ]
      | inr a_low ↦ elim (place b (second_among a b c)) [
        | inr b_low ↦ absurd (untrue c (third_among a b c) (denied_low order t (t.level - 1) some.x some.y some.z trail transitive some.kinds a_low b_low))
        | inl b_open ↦ elim (place c (third_among a b c)) [
          | inl c_open ↦ two b c (second_among a b c) (third_among a b c) (λ same. some.apart 1 2 a (omega arith) (omega arith) (ap (λ (l : Lit). l.var) same)) b_open c_open
          | inr c_low ↦ absurd (untrue b (second_among a b c) (denied_low order t (t.level - 1) some.z some.x some.y trail transitive (AreKinds-turned order some.y some.z some.x (AreKinds-turned order some.x some.y some.z some.kinds)) c_low a_low))
        ]
      ]
    ]
  where
    a : Lit
    a = negated (comes_before order some.x some.y)

    b : Lit
    b = negated (comes_before order some.y some.z)

    c : Lit
    c = negated (comes_before order some.z some.x)

    untrue : (l : Lit) → Contains (a ∷ b ∷ c ∷ []) l → ¬ IsSetTrue (values_of t.entries) l
    untrue l among = All-contains (λ (m : Lit). ¬ IsSetTrue (values_of t.entries) m) clause l none_true ((some.exactly l).1 among)

    place : (l : Lit) → Contains (a ∷ b ∷ c ∷ []) l → IsOpen t.entries t.level l ⊎ MakesFalse (values_of (up_to (t.level - 1) t.entries)) l
    place l among = open_or_low t l trail above (untrue l among)

    two : (l m : Lit) → Contains (a ∷ b ∷ c ∷ []) l → Contains (a ∷ b ∷ c ∷ []) m → l ≢ m → IsOpen t.entries t.level l → IsOpen t.entries t.level m → HasTwoOpen t.entries t.level clause
    two l m l_among m_among differ l_open m_open = record {
      one = l;
      other = m;
      differ = differ;
      one_among = (some.exactly l).1 l_among;
      other_among = (some.exactly m).1 m_among;
      one_open = l_open;
      other_open = m_open;
    }

-- a clause of the order without a true literal may be added
pub two_open : (order : Order) (t : State) (number : ℕ) (clause : List Lit) → ClausesForbidCycles → IsTrail t → IsTransitiveBelow order t → HasNumber (numbered (order_list order)) number clause → All (λ l. ¬ IsSetTrue (values_of t.entries) l) clause → (t.level ≡ 0) ⊎ HasTwoOpen t.entries t.level clause
two_open order t number clause law trail below has none_true = elim (cases_eq t.level 0) [
  | inl at_0 ↦ inl at_0
  | inr some ↦
      let above : 0 < t.level = omega (arith, some) in
      inr (open_above order t clause trail above (below (t.level - 1) (omega (arith, above))) (law order number clause has) none_true)
]
