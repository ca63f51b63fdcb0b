-- The variables of pairs of kinds are among those that there are.
use Rattle.std.proofs.Common.{◌≡◌, ◌≢◌, ℕ, zero, suc, ◌+◌, ◌-◌, ◌*◌, ◌/◌, ◌<◌, ◌≤◌, ap, sym, subst, arith}
use Rattle.std.specs.Prelude.{nat_lt}
use Rattle.std.proofs.lemmas.Bool.{cond_both, ltb-true, ltb-false}
use Rattle.clause_core.specs.declared.literal.Lit.{Lit}
use Rattle.clause_core.specs.Literal.{negated, positive}
use Rattle.clause_encoding.specs.declared.variables.Variables.{Variables}
use Rattle.clause_encoding.specs.Variables.{IsKind, IsSmall, occurs, order_variable, stands_before, variable_count}

-- the variable of the literal is one of those that there are
abbrev pub LitExists : Variables → Lit → Type 0
LitExists vars l = (0 < l.var) × (l.var ≤ variable_count vars)

-- the product of two neighbours is even
half_even : (p : ℕ) → (t : ℕ) × ((p + 1) * p ≡ 2 * t)
half_even zero = (0, omega arith)
half_even (suc p) = let smaller = half_even p in (smaller.0 + p + 1, omega (arith, smaller.1))

-- the same by two names
half_of : (i p : ℕ) → i ≡ p + 1 → (t : ℕ) × (i * p ≡ 2 * t)
half_of i p after = subst (λ (k : ℕ). (t : ℕ) × (k * p ≡ 2 * t)) (sym after) (half_even p)

-- a number is at most its square
at_most_square : (d : ℕ) → d ≤ d * d
at_most_square zero = omega arith
at_most_square (suc d) = omega (arith, at_most_square d)

-- the number of a pair is at most that of the last pair; `p` is before `i`, and `q` before `kinds`
pair_fits : (base i p kinds q d j : ℕ) → i ≡ p + 1 → kinds ≡ q + 1 → q ≡ p + d → j ≤ kinds → base + p * kinds - i * p / 2 + (j - i) ≤ base + kinds * q / 2
pair_fits base i p kinds q d j after after_q apart to =
    let row = half_of i p after in
    let all = half_of kinds q after_q in
    let whole : kinds ≡ p + d + 1 = omega (arith, after_q, apart) in
    let rows : p * kinds ≡ p * (p + d + 1) = ap (λ (k : ℕ). p * k) whole in
    let before : i * p ≡ (p + 1) * p = ap (λ (k : ℕ). k * p) after in
    let pairs : kinds * q ≡ (p + d + 1) * (p + d) = λ n. whole n * apart n in
    omega (arith, row.1, all.1, rows, before, pairs, at_most_square d)

-- the variable of two kinds is one of those that there are
order_exists : (vars : Variables) (i j : ℕ) → IsKind vars i → IsKind vars j → i < j → (0 < order_variable vars i j) × (order_variable vars i j ≤ variable_count vars)
order_exists vars i j first second less =
    let from = first.from_one in
    let to = second.up_to in
    let fits = pair_fits vars.order_base i (i - 1) vars.kinds (vars.kinds - 1) (vars.kinds - i) j (omega arith) (omega arith) (omega arith) to in
    (omega (arith, less), fits)

-- so is that of a kind
pub occurs_exists : (vars : Variables) (i : ℕ) → IsSmall vars → IsKind vars i → LitExists vars (occurs i)
occurs_exists vars i small kind =
    let to = kind.up_to in
    let within = small.occurrences_first in
    (kind.from_one, omega (arith, to, within))

-- and that of two kinds in either order
pub before_exists : (vars : Variables) (i j : ℕ) → IsKind vars i → IsKind vars j → i ≢ j → LitExists vars (stands_before vars i j)
before_exists vars i j first second apart =
    cond_both (nat_lt i j) (positive (order_variable vars i j)) (negated (positive (order_variable vars j i))) (LitExists vars)
    (λ yes. order_exists vars i j first second (ltb-true i j yes))
    (λ no. let not_less = ltb-false i j no in order_exists vars j i second first (omega (arith, not_less, apart)))
