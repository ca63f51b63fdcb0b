-- Which variables the clauses of a condition have, and what does not depend on others.
use Rattle.std.proofs.Common.{◌≡◌, ℕ, ◌+◌, ◌<◌, ◌≤◌, Bool, inl, inr, List, [], ◌∷◌, ◌++◌, ◌∙◌, ⊎_elim, arith}
use Rattle.std.specs.List.{All}
use Rattle.std.proofs.lemmas.List.Elements.{All-append, All-cons, All-head, All-nil, All-tail, All-weaker}
use Rattle.clause_core.specs.declared.literal.Lit.{Lit}
use Rattle.clause_core.specs.Clause.{Satisfies, SatisfiesAll}
use Rattle.clause_core.specs.Literal.{MakesTrue, negated, positive}
use Rattle.circuit_clauses.specs.Asserted.{asserted, asserted_count, part_clauses, part_count, part_lits}
use Rattle.circuit_clauses.specs.Condition.{Condition, Literal, Both, Either, Always, Never, IsBelow, Meets}
use Rattle.circuit_clauses.specs.Laws.{VariablesAreFurther}
use Rattle.circuit_clauses.proofs.ListLemmas.{any_cases, any_first, any_later, any_none}

-- the literals have variables below the number
abbrev pub AreBelow : ℕ → List Lit → Type 0
AreBelow n lits = All (λ l. l.var < n) lits

-- two valuations are the same below the number
abbrev pub AreSameBelow : ℕ → (ℕ → Bool) → (ℕ → Bool) → Type 0
AreSameBelow n v w = (k : ℕ) → k < n → w k ≡ v k

-- what is below a number is below a later one
pub lits_below : (n m : ℕ) (lits : List Lit) → n ≤ m → AreBelow n lits → AreBelow m lits
lits_below n m lits later = All-weaker (λ l. l.var < n) (λ l. l.var < m) (λ l below. omega (arith, later, below)) lits

pub all_below : (n m : ℕ) (clauses : List (List Lit)) → n ≤ m → All (AreBelow n) clauses → All (AreBelow m) clauses
all_below n m clauses later = All-weaker (AreBelow n) (AreBelow m) (λ lits. lits_below n m lits later) clauses

pub condition_below : (n m : ℕ) (c : Condition) → n ≤ m → IsBelow n c → IsBelow m c
condition_below n m (Literal l) later below = omega (arith, later, below)
condition_below n m (Both c d) later below = (condition_below n m c later below.0, condition_below n m d later below.1)
condition_below n m (Either c d) later below = (condition_below n m c later below.0, condition_below n m d later below.1)
condition_below n m Always later below = tt
condition_below n m Never later below = tt

-- a condition is met by each valuation that is the same below
pub meets_same : (n : ℕ) (c : Condition) (v w : ℕ → Bool) → IsBelow n c → AreSameBelow n v w → Meets v c → Meets w c
meets_same n (Literal l) v w below same met = same l.var below ∙ met
meets_same n (Both c d) v w below same met = (meets_same n c v w below.0 same met.0, meets_same n d v w below.1 same met.1)
meets_same n (Either c d) v w below same met =
    ⊎_elim
    (λ left. inl (meets_same n c v w below.0 same left))
    (λ right. inr (meets_same n d v w below.1 same right))
    met
meets_same n Always v w below same met = tt
meets_same n Never v w below same met = met

-- a clause is satisfied by each such valuation
pub satisfies_same : (n : ℕ) (lits : List Lit) (v w : ℕ → Bool) → AreBelow n lits → AreSameBelow n v w → Satisfies v lits → Satisfies w lits
satisfies_same n [] v w below same some = absurd (any_none (MakesTrue v) some)
satisfies_same n (l ∷ lits) v w below same some =
    ⊎_elim
    (λ first. any_first (MakesTrue w) l lits (same l.var (All-head (λ l. l.var < n) l lits below) ∙ first))
    (λ later. any_later (MakesTrue w) l lits (satisfies_same n lits v w (All-tail (λ l. l.var < n) l lits below) same later))
    (any_cases (MakesTrue v) l lits some)

-- and so are clauses
pub all_same : (n : ℕ) (clauses : List (List Lit)) (v w : ℕ → Bool) → All (AreBelow n) clauses → AreSameBelow n v w → SatisfiesAll v clauses → SatisfiesAll w clauses
all_same n [] v w below same all = All-nil (Satisfies w)
all_same n (lits ∷ clauses) v w below same all =
    All-cons (Satisfies w) lits clauses
    (satisfies_same n lits v w (All-head (AreBelow n) lits clauses below) same (All-head (Satisfies v) lits clauses all))
    (all_same n clauses v w (All-tail (AreBelow n) lits clauses below) same (All-tail (Satisfies v) lits clauses all))

-- the literals of a part have no variable past its further ones
pub part_lits_below : (n : ℕ) (c : Condition) → IsBelow n c → AreBelow (n + part_count c) (part_lits n c)
part_lits_below n (Literal l) below = All-cons (λ m. m.var < n + 0) l [] (omega (arith, below)) (All-nil (λ m. m.var < n + 0))
part_lits_below n (Both c d) below =
    All-cons (λ m. m.var < n + part_count (Both c d)) (positive n) [] (omega arith) (All-nil (λ m. m.var < n + part_count (Both c d)))
part_lits_below n (Either c d) below =
    let m = n + part_count c in
    All-append (λ l. l.var < n + part_count (Either c d)) (part_lits n c) (part_lits m d)
    (lits_below m (n + part_count (Either c d)) (part_lits n c) (omega arith) (part_lits_below n c below.0))
    (lits_below (m + part_count d) (n + part_count (Either c d)) (part_lits m d) (omega arith) (part_lits_below m d (condition_below n m d (omega arith) below.1)))
part_lits_below n Always below = All-cons (λ m. m.var < n + 1) (positive n) [] (omega arith) (All-nil (λ m. m.var < n + 1))
part_lits_below n Never below = All-nil (λ m. m.var < n + 0)

-- the clauses of a condition, and of a part, have no variable past the further ones
pub record HasFew (c : Condition) : Type 0 where
  pub whole : (n : ℕ) (guard : List Lit) → IsBelow n c → AreBelow n guard → All (AreBelow (n + asserted_count c)) (asserted n guard c)
  pub part : (n : ℕ) → IsBelow n c → All (AreBelow (n + part_count c)) (part_clauses n c)

-- those of two conditions, one after the other
two_wholes : (n m : ℕ) (guard : List Lit) (c d : Condition) → HasFew c → HasFew d → IsBelow n c → IsBelow n d → AreBelow n guard → n + (asserted_count c + asserted_count d) ≤ m → All (AreBelow m) (asserted n guard c ++ asserted (n + asserted_count c) guard d)
two_wholes n m guard c d left right below also guarded within =
    let k = n + asserted_count c in
    All-append (AreBelow m) (asserted n guard c) (asserted k guard d)
    (all_below k m (asserted n guard c) (omega (arith, within)) (left.whole n guard below guarded))
    (all_below (k + asserted_count d) m (asserted k guard d) (omega (arith, within)) (right.whole k guard (condition_below n k d (omega arith) also) (lits_below n k guard (omega arith) guarded)))

-- and those of two parts
two_parts : (n : ℕ) (c d : Condition) → HasFew c → HasFew d → IsBelow n c → IsBelow n d → All (AreBelow (n + (part_count c + part_count d))) (part_clauses n c ++ part_clauses (n + part_count c) d)
two_parts n c d left right below also =
    let k = n + part_count c in
    let m = n + (part_count c + part_count d) in
    All-append (AreBelow m) (part_clauses n c) (part_clauses k d)
    (all_below k m (part_clauses n c) (omega arith) (left.part n below))
    (all_below (k + part_count d) m (part_clauses k d) (omega arith) (right.part k (condition_below n k d (omega arith) also)))

-- so it is of each condition
pub few : (c : Condition) → HasFew c
few (Literal l) = record {
  whole = λ n guard below guarded.
      All-cons (AreBelow (n + 0)) (guard ++ l ∷ []) []
      (All-append (λ m. m.var < n + 0) guard (l ∷ []) (lits_below n (n + 0) guard (omega arith) guarded) (part_lits_below n (Literal l) below))
      (All-nil (AreBelow (n + 0)));
  part = λ n below. All-nil (AreBelow (n + 0));
}
few (Both c d) = record {
  whole = λ n guard below guarded. two_wholes n (n + asserted_count (Both c d)) guard c d (few c) (few d) below.0 below.1 guarded (omega arith);
  part = λ n below.
      let guard = negated (positive n) ∷ [] in
      let guarded = All-cons (λ l. l.var < n + 1) (negated (positive n)) [] (omega arith) (All-nil (λ l. l.var < n + 1)) in
      two_wholes (n + 1) (n + part_count (Both c d)) guard c d (few c) (few d) (condition_below n (n + 1) c (omega arith) below.0) (condition_below n (n + 1) d (omega arith) below.1) guarded (omega arith);
}
few (Either c d) = record {
  whole = λ n guard below guarded.
      let m = n + asserted_count (Either c d) in
      let lits = part_lits n c ++ part_lits (n + part_count c) d in
      All-cons (AreBelow m) (guard ++ lits) (part_clauses n c ++ part_clauses (n + part_count c) d)
      (All-append (λ l. l.var < m) guard lits (lits_below n m guard (omega arith) guarded) (part_lits_below n (Either c d) below))
      (two_parts n c d (few c) (few d) below.0 below.1);
  part = λ n below. two_parts n c d (few c) (few d) below.0 below.1;
}
few Always = record { whole = λ n guard below guarded. All-nil (AreBelow (n + 0)); part = λ n below. All-nil (AreBelow (n + 1)) }
few Never = record {
  whole = λ n guard below guarded. All-cons (AreBelow (n + 0)) guard [] (lits_below n (n + 0) guard (omega arith) guarded) (All-nil (AreBelow (n + 0)));
  part = λ n below. All-nil (AreBelow (n + 0));
}

-- with no guard
pub variables_are_further : VariablesAreFurther
variables_are_further n c below = (few c).whole n [] below (All-nil (λ l. l.var < n))
