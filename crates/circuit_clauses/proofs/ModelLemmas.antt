-- Where a condition is met, its further variables have values with which its clauses hold.
use Rattle.std.proofs.Common.{◌≡◌, ◌≢◌, ◌⊎◌, ℕ, ◌+◌, ◌<◌, ◌≤◌, Bool, true, false, cond, inl, inr, List, [], ◌∷◌, ◌++◌, refl, ◌∙◌, ⊎_elim, arith}
use Rattle.std.specs.Bool.{◌==◌}
use Rattle.std.proofs.lemmas.Bool.{cond-false, cond-true, eq-eqb, ne_eqb}
use Rattle.std.proofs.lemmas.List.Elements.{All-append, All-cons, All-nil}
use Rattle.clause_core.specs.declared.literal.Lit.{Lit}
use Rattle.clause_core.specs.Clause.{Satisfies, SatisfiesAll}
use Rattle.clause_core.specs.Literal.{MakesTrue, negated, positive}
use Rattle.circuit_clauses.specs.Asserted.{asserted, asserted_count, part_clauses, part_count, part_lits}
use Rattle.circuit_clauses.specs.Condition.{Condition, Literal, Both, Either, Always, Never, IsBelow, Meets}
use Rattle.circuit_clauses.specs.Laws.{DiffersWithin, MetIsAsserted}
use Rattle.circuit_clauses.proofs.BelowLemmas.{AreBelow, AreSameBelow, all_same, condition_below, few, lits_below, meets_same, part_lits_below, satisfies_same}
use Rattle.circuit_clauses.proofs.DeniedLemmas.{met_or_denied, met_not_denied}
use Rattle.circuit_clauses.proofs.ListLemmas.{any_first, any_left, any_right}

-- a valuation that differs within a range is the same below it
below_range : (n count : ℕ) (v w : ℕ → Bool) → DiffersWithin n count v w → AreSameBelow n v w
below_range n count v w differs k below = differs k (inl below)

-- two ranges one after the other, within one
ranges : (n m first second count : ℕ) (v w u : ℕ → Bool) → n ≤ m → m + (first + second) ≤ n + count → DiffersWithin m first v w → DiffersWithin (m + first) second w u → DiffersWithin n count v u
ranges n m first second count v w u from within one two k outside =
    ⊎_elim
    (λ below. two k (inl (omega (arith, from, below))) ∙ one k (inl (omega (arith, from, below))))
    (λ past. two k (inr (omega (arith, within, past))) ∙ one k (inr (omega (arith, within, past))))
    outside

-- the same valuation
nowhere_else : (n count : ℕ) (v : ℕ → Bool) → DiffersWithin n count v v
nowhere_else n count v k outside = refl

-- the valuation with another value at one variable
abbrev with_value : ℕ → Bool → (ℕ → Bool) → ℕ → Bool
with_value n b v k = cond (k == n) b (v k)

-- it has the value there
value_there : (n : ℕ) (b : Bool) (v : ℕ → Bool) → with_value n b v n ≡ b
value_there n b v = cond-true (n == n) b (v n) (eq-eqb n n refl)

-- and is the same elsewhere
value_elsewhere : (n : ℕ) (b : Bool) (v : ℕ → Bool) → DiffersWithin n 1 v (with_value n b v)
value_elsewhere n b v k outside =
    let other : k ≢ n = ⊎_elim (λ below. λ same. absurd (omega (arith, below, same))) (λ past. λ same. absurd (omega (arith, past, same))) outside in
    cond-false (k == n) b (v k) (ne_eqb k n other)

-- a valuation with which the clauses hold, whatever the guard, if the condition is met or the guard is
pub record HasValues (n : ℕ) (guard : List Lit) (c : Condition) (v : ℕ → Bool) : Type 0 where
  pub valuation : ℕ → Bool
  pub within : DiffersWithin n (asserted_count c) v valuation
  pub holds : SatisfiesAll valuation (asserted n guard c)

-- a valuation with which the clauses of a part hold, and one of its literals if the part is met
pub record HasPartValues (n : ℕ) (c : Condition) (v : ℕ → Bool) : Type 0 where
  pub valuation : ℕ → Bool
  pub within : DiffersWithin n (part_count c) v valuation
  pub holds : SatisfiesAll valuation (part_clauses n c)
  pub some : Meets v c → Satisfies valuation (part_lits n c)

-- each condition has both
pub record HasModels (c : Condition) : Type 0 where
  pub whole : (n : ℕ) (guard : List Lit) (v : ℕ → Bool) → IsBelow n c → AreBelow n guard → Meets v c ⊎ Satisfies v guard → HasValues n guard c v
  pub part : (n : ℕ) (v : ℕ → Bool) → IsBelow n c → HasPartValues n c v

-- a valuation with which the clauses of two conditions hold
pub record HasTwoValues (n : ℕ) (guard : List Lit) (c d : Condition) (v : ℕ → Bool) : Type 0 where
  pub valuation : ℕ → Bool
  pub within : DiffersWithin n (asserted_count c + asserted_count d) v valuation
  pub holds : SatisfiesAll valuation (asserted n guard c ++ asserted (n + asserted_count c) guard d)

-- a condition that is met, or a guard, under each valuation that is the same below
still : (n : ℕ) (guard : List Lit) (c : Condition) (v w : ℕ → Bool) → IsBelow n c → AreBelow n guard → AreSameBelow n v w → Meets v c ⊎ Satisfies v guard → Meets w c ⊎ Satisfies w guard
still n guard c v w below guarded same =
    ⊎_elim (λ met. inl (meets_same n c v w below same met)) (λ guards. inr (satisfies_same n guard v w guarded same guards))

-- one condition after the other
two_values : (n : ℕ) (guard : List Lit) (c d : Condition) (v : ℕ → Bool) → HasModels c → HasModels d → IsBelow n c → IsBelow n d → AreBelow n guard → Meets v c ⊎ Satisfies v guard → Meets v d ⊎ Satisfies v guard → HasTwoValues n guard c d v
two_values n guard c d v left right below also guarded first second =
    let m = n + asserted_count c in
    let one = left.whole n guard v below guarded first in
    let w = one.valuation in
    let again = still n guard d v w also guarded (below_range n (asserted_count c) v w one.within) second in
    let two = right.whole m guard w (condition_below n m d (omega arith) also) (lits_below n m guard (omega arith) guarded) again in
    let u = two.valuation in
    record {
      valuation = u;
      within = ranges n n (asserted_count c) (asserted_count d) (asserted_count c + asserted_count d) v w u (omega arith) (omega arith) one.within two.within;
      holds =
          All-append (Satisfies u) (asserted n guard c) (asserted m guard d)
          (all_same m (asserted n guard c) w u ((few c).whole n guard below guarded) (below_range m (asserted_count d) w u two.within) one.holds)
          two.holds;
    }

-- a valuation with which the clauses of two parts hold, and one of the literals if one is met
pub record HasTwoParts (n : ℕ) (c d : Condition) (v : ℕ → Bool) : Type 0 where
  pub valuation : ℕ → Bool
  pub within : DiffersWithin n (part_count c + part_count d) v valuation
  pub holds : SatisfiesAll valuation (part_clauses n c ++ part_clauses (n + part_count c) d)
  pub some : Meets v c ⊎ Meets v d → Satisfies valuation (part_lits n c ++ part_lits (n + part_count c) d)

-- one part after the other
two_parts : (n : ℕ) (c d : Condition) (v : ℕ → Bool) → HasModels c → HasModels d → IsBelow n c → IsBelow n d → HasTwoParts n c d v
two_parts n c d v left right below also =
    let m = n + part_count c in
    let one = left.part n v below in
    let w = one.valuation in
    let same = below_range n (part_count c) v w one.within in
    let two = right.part m w (condition_below n m d (omega arith) also) in
    let u = two.valuation in
    let stays = below_range m (part_count d) w u two.within in
    record {
      valuation = u;
      within = ranges n n (part_count c) (part_count d) (part_count c + part_count d) v w u (omega arith) (omega arith) one.within two.within;
      holds =
          All-append (Satisfies u) (part_clauses n c) (part_clauses m d)
          (all_same m (part_clauses n c) w u ((few c).part n below) stays one.holds)
          two.holds;
      some = ⊎_elim
          (λ met. any_left (MakesTrue u) (part_lits n c) (part_lits m d) (satisfies_same m (part_lits n c) w u (part_lits_below n c below) stays (one.some met)))
          (λ met. any_right (MakesTrue u) (part_lits n c) (part_lits m d) (two.some (meets_same n d v w also same met)));
    }

-- a condition with a variable of its own, which is true exactly if the condition is met
own_variable : (n : ℕ) (c d : Condition) (v : ℕ → Bool) (b : Bool) → HasModels c → HasModels d → IsBelow n c → IsBelow n d → (Meets v c × Meets v d) ⊎ (b ≡ false) → HasTwoValues (n + 1) (negated (positive n) ∷ []) c d (with_value n b v)
own_variable n c d v b left right below also either =
    let w = with_value n b v in
    let guard = negated (positive n) ∷ [] in
    let guarded = All-cons (λ l. l.var < n + 1) (negated (positive n)) [] (omega arith) (All-nil (λ l. l.var < n + 1)) in
    let same = below_range n 1 v w (value_elsewhere n b v) in
    let on : b ≡ false → Satisfies w guard = λ none. any_first (MakesTrue w) (negated (positive n)) [] (value_there n b v ∙ none) in
    two_values (n + 1) guard c d w left right (condition_below n (n + 1) c (omega arith) below) (condition_below n (n + 1) d (omega arith) also) guarded
    (⊎_elim (λ met. inl (meets_same n c v w below same met.0)) (λ none. inr (on none)) either)
    (⊎_elim (λ met. inl (meets_same n d v w also same met.1)) (λ none. inr (on none)) either)

-- the part that has the variable
own_part : (n : ℕ) (c d : Condition) (v : ℕ → Bool) (b : Bool) → (Meets v (Both c d) → b ≡ true) → HasTwoValues (n + 1) (negated (positive n) ∷ []) c d (with_value n b v) → HasPartValues n (Both c d) v
own_part n c d v b true_if two =
    let w = with_value n b v in
    let u = two.valuation in
    let stays : u n ≡ w n = two.within n (inl (omega arith)) in
    record {
      valuation = u;
      within = ranges n n 1 (asserted_count c + asserted_count d) (part_count (Both c d)) v w u (omega arith) (omega arith) (value_elsewhere n b v) two.within;
      holds = two.holds;
      some = λ met. any_first (MakesTrue u) (positive n) [] (stays ∙ (value_there n b v ∙ true_if met));
    }

-- so it is of each condition
pub models : (c : Condition) → HasModels c
models (Literal l) = record {
  whole = λ n guard v below guarded either. record {
    valuation = v;
    within = nowhere_else n 0 v;
    holds = All-cons (Satisfies v) (guard ++ l ∷ []) [] (⊎_elim (λ met. any_right (MakesTrue v) guard (l ∷ []) (any_first (MakesTrue v) l [] met)) (λ guards. any_left (MakesTrue v) guard (l ∷ []) guards) either) (All-nil (Satisfies v));
  };
  part = λ n v below. record {
    valuation = v;
    within = nowhere_else n 0 v;
    holds = All-nil (Satisfies v);
    some = λ met. any_first (MakesTrue v) l [] met;
  };
}
models (Both c d) = record {
  whole = λ n guard v below guarded either.
      let two = two_values n guard c d v (models c) (models d) below.0 below.1 guarded (⊎_elim (λ met. inl met.0) inr either) (⊎_elim (λ met. inl met.1) inr either) in
      record { valuation = two.valuation; within = two.within; holds = two.holds };
  part = λ n v below.
      ⊎_elim
      (λ met. own_part n c d v true (λ also. refl) (own_variable n c d v true (models c) (models d) below.0 below.1 (inl met)))
      (λ denied. own_part n c d v false (λ met. absurd (met_not_denied (Both c d) v met denied)) (own_variable n c d v false (models c) (models d) below.0 below.1 (inr refl)))
      (met_or_denied (Both c d) v);
}
models (Either c d) = record {
  whole = λ n guard v below guarded either.
      let lits = part_lits n c ++ part_lits (n + part_count c) d in
      let two = two_parts n c d v (models c) (models d) below.0 below.1 in
      let u = two.valuation in
      let same = below_range n (part_count c + part_count d) v u two.within in
      record {
        valuation = u;
        within = two.within;
        holds = All-cons (Satisfies u) (guard ++ lits) (part_clauses n c ++ part_clauses (n + part_count c) d)
            (⊎_elim
            (λ met. any_right (MakesTrue u) guard lits (two.some met))
            (λ guards. any_left (MakesTrue u) guard lits (satisfies_same n guard v u guarded same guards))
            either)
            two.holds;
      };
  part = λ n v below.
      let two = two_parts n c d v (models c) (models d) below.0 below.1 in
      record { valuation = two.valuation; within = two.within; holds = two.holds; some = two.some };
}
models Always = record {
  whole = λ n guard v below guarded either. record { valuation = v; within = nowhere_else n 0 v; holds = All-nil (Satisfies v) };
  part = λ n v below. record {
    valuation = with_value n true v;
    within = value_elsewhere n true v;
    holds = All-nil (Satisfies (with_value n true v));
    some = λ met. any_first (MakesTrue (with_value n true v)) (positive n) [] (value_there n true v);
  };
}
models Never = record {
  whole = λ n guard v below guarded either. record {
    valuation = v;
    within = nowhere_else n 0 v;
    holds = All-cons (Satisfies v) guard [] (⊎_elim (λ met. absurd met) (λ guards. guards) either) (All-nil (Satisfies v));
  };
  part = λ n v below. record { valuation = v; within = nowhere_else n 0 v; holds = All-nil (Satisfies v); some = λ met. absurd met };
}

-- with no guard
pub met_is_asserted : MetIsAsserted
met_is_asserted n c v below met =
    let made = (models c).whole n [] v below (All-nil (λ l. l.var < n)) (inl met) in
    (made.valuation, made.within, made.holds)
