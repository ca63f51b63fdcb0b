-- The variables of pairs come in the order of the pairs.
use Rattle.std.proofs.Common.{◌≡◌, ℕ, zero, suc, ◌+◌, ◌-◌, ◌*◌, ◌/◌, ◌<◌, ◌≤◌, Bool, true, false, cond, not, [], ◌∷◌, length, get_or, ap, arith}
use Rattle.std.proofs.Math.Nat.{mul-le-mul_left}
use Rattle.clause_core.specs.declared.literal.Lit.{Lit}
use Rattle.clause_core.specs.Clause.{IsAscending}
use Rattle.clause_core.specs.Literal.{rank}
use Rattle.order_axioms.specs.declared.order.Order.{Order}
use Rattle.order_axioms.specs.Order.{AreRising, cycle_clause, pair_variable}

-- the product of two neighbours is even
pub half_even : (p : ℕ) → (t : ℕ) × ((p + 1) * p ≡ 2 * t)
half_even zero = (0, omega arith)
half_even (suc p) = let smaller = half_even p in (smaller.0 + p + 1, omega (arith, smaller.1))

-- the number of a pair, by how many kinds come before its first one
pub pair_number : ℕ → ℕ → ℕ → ℕ → ℕ
pair_number base kinds p k = base + p * kinds - (p + 1) * p / 2 + (k - (p + 1))

pub pair_is : (order : Order) (p k : ℕ) → pair_variable order (p + 1) k ≡ pair_number order.base order.kinds p k
unfolding pair_number
pair_is order p k =
    let before : p + 1 - 1 ≡ p = omega arith in
    ap (λ (q : ℕ). order.base + q * order.kinds - (p + 1) * q / 2 + (k - (p + 1))) before

-- one kind more before it
number_more : (base kinds p k t : ℕ) → (p + 1) * p ≡ 2 * t → p * (p + 3) ≤ p * kinds → p + 2 < k → k ≤ kinds → pair_number base kinds p k < pair_number base kinds (p + 1) k
unfolding pair_number
number_more base kinds p k t even square before within = omega (arith, even, square, before, within)

-- from the first variable of a lower kind to that of the next
pub number_next : (base kinds p t : ℕ) → (p + 1) * p ≡ 2 * t → p * (p + 1) ≤ p * kinds → p + 1 ≤ kinds → pair_number base kinds (p + 1) (p + 1 + 1 + 1) ≡ pair_number base kinds p (p + 1 + 1) + (kinds - (p + 1))
unfolding pair_number
number_next base kinds p t even square within = omega (arith, even, square, within)

pair_more : (order : Order) (p k : ℕ) → p + 2 < k → k ≤ order.kinds → pair_variable order (p + 1) k < pair_variable order (p + 1 + 1) k
pair_more order p k before within =
    let even = half_even p in
    let square = mul-le-mul_left p (let some : p + 3 ≤ order.kinds = omega (arith, before, within) in some) in
    omega (arith, pair_is order p k, pair_is order (p + 1) k, number_more order.base order.kinds p k even.0 even.1 square before within)

-- more kinds before it
pair_later : (order : Order) (p n k : ℕ) → p + n + 2 < k → k ≤ order.kinds → pair_variable order (p + 1) k < pair_variable order (p + n + 1 + 1) k
pair_later order p zero k before within =
    let same : p + zero + 1 + 1 ≡ p + 1 + 1 = omega arith in
    omega (arith, pair_more order p k (omega (arith, before)) within, ap (λ (i : ℕ). pair_variable order i k) same)
pair_later order p (suc n) k before within =
    let last : p + n + 1 + 1 ≡ p + suc n + 1 = omega arith in
    omega (arith, pair_later order p n k (omega (arith, before)) within, pair_more order (p + suc n) k (omega (arith, before)) within, ap (λ (i : ℕ). pair_variable order i k) last)

-- the variables of three rising kinds rise
pub variables_rise : (order : Order) (i j k : ℕ) → AreRising order i j k → (pair_variable order i j < pair_variable order i k) × (pair_variable order i k < pair_variable order j k)
variables_rise order i j k rising =
    let from = rising.from_one in
    let first = rising.first in
    let second = rising.second in
    let up_to = rising.up_to in
    let start : i - 1 + 1 ≡ i = omega (arith, from) in
    let end : i - 1 + (j - i - 1) + 1 + 1 ≡ j = omega (arith, from, first) in
    let later = pair_later order (i - 1) (j - i - 1) k (omega (arith, from, first, second)) up_to in
    (omega (arith, first, second), omega (arith, later, ap (λ (m : ℕ). pair_variable order m k) start, ap (λ (m : ℕ). pair_variable order m k) end))

-- a literal of a lower variable comes before
sign_small : (b : Bool) → cond b 1 0 ≤ 1
sign_small true = omega arith
sign_small false = omega arith

rank_below : (l m : Lit) → l.var < m.var → rank l < rank m
rank_below l m below = omega (arith, below, sign_small l.positive)

-- three literals of rising variables ascend
three_ascend : (a b c : Lit) → a.var < b.var → b.var < c.var → IsAscending (a ∷ b ∷ c ∷ [])
three_ascend a b c first second = record { ordered = pairs }
  where
    pairs : (i j : ℕ) (d : Lit) → i < j → j < length (a ∷ b ∷ c ∷ []) → rank (get_or (a ∷ b ∷ c ∷ []) i d) < rank (get_or (a ∷ b ∷ c ∷ []) j d)
    pairs i zero d before within = absurd (omega (arith, before))
    pairs zero (suc zero) d before within = rank_below a b first
    pairs zero (suc (suc zero)) d before within = rank_below a c (omega (arith, first, second))
    pairs zero (suc (suc (suc j))) d before within = absurd (omega (arith, within))
    pairs (suc i) (suc zero) d before within = absurd (omega (arith, before))
    pairs (suc zero) (suc (suc zero)) d before within = rank_below b c second
    pairs (suc (suc i)) (suc (suc zero)) d before within = absurd (omega (arith, before))
    pairs (suc i) (suc (suc (suc j))) d before within = absurd (omega (arith, within))

-- so do the literals of a clause that forbids a cycle
pub cycle_ascends : (order : Order) (backward : Bool) (i j k : ℕ) → AreRising order i j k → IsAscending (cycle_clause order backward i j k)
cycle_ascends order backward i j k rising =
    let rise = variables_rise order i j k rising in
    let ij : Lit = record { var = pair_variable order i j; positive = backward } in
    let ik : Lit = record { var = pair_variable order i k; positive = not backward } in
    let jk : Lit = record { var = pair_variable order j k; positive = backward } in
    three_ascend ij ik jk rise.0 rise.1
