-- The variables of order: each comes after all others, and is at most their number.
use Rattle.std.proofs.Common.{◌≡◌, ◌≢◌, ltb, inl, inr, ℕ, zero, suc, ◌+◌, ◌-◌, ◌*◌, ◌/◌, ◌<◌, ◌≤◌, refl, sym, ap, subst, arith}
use Rattle.std.proofs.lemmas.Bool.{cases_order, cond_both, ltb-false, ltb-true}
use Rattle.clause_encoding.specs.declared.variables.Variables.{Variables}
use Rattle.clause_core.specs.Literal.{negated, positive}
use Rattle.clause_encoding.specs.Variables.{IsKind, order_variable, stands_before, variable_count}

-- the sum of the numbers from 1
abbrev triangle : ℕ → ℕ
triangle zero = 0
triangle (suc n) = triangle n + suc n

-- half a product
double_triangle : (n : ℕ) → suc n * n ≡ 2 * triangle n
double_triangle zero = refl
double_triangle (suc n) = let rest = double_triangle n in omega (arith, rest)

-- a square is two triangles, less a side
square_triangle : (n : ℕ) → n * n + n ≡ 2 * triangle n
square_triangle zero = refl
square_triangle (suc n) = let double = double_triangle n in omega (arith, double)

-- what comes before the row of kind n + 1: the row of kind n has a variable for each kind after it
abbrev row : ℕ → ℕ → ℕ → ℕ
row base kinds zero = base
row base kinds (suc n) = row base kinds n + (kinds - suc n)

-- a row begins where so many full rows would, less a triangle
row_triangle : (base kinds n : ℕ) → n ≤ kinds → row base kinds n + triangle n ≡ base + n * kinds
row_triangle base kinds zero few = omega arith
row_triangle base kinds (suc n) few = let rest = row_triangle base kinds n (omega arith) in omega (arith, rest)

-- so it is written in the definition
row_is : (base kinds n : ℕ) → n ≤ kinds → base + n * kinds - suc n * n / 2 ≡ row base kinds n
row_is base kinds n few =
    let double = double_triangle n in
    let begins = row_triangle base kinds n few in
    omega (arith, double, begins)

-- a row ends before the later ones begin
rows_in_order : (base kinds n later : ℕ) → n < later → row base kinds (suc n) ≤ row base kinds later
rows_in_order base kinds n zero less = absurd (omega arith)
rows_in_order base kinds n (suc later) less =
    elim (cases_order n later) [
      | inl same ↦ subst (λ m. row base kinds (suc n) ≤ row base kinds (suc m)) same (omega arith)
      | inr (inl earlier) ↦ let rest = rows_in_order base kinds n later earlier in omega (arith, rest)
      | inr (inr past) ↦ absurd (omega arith)
    ]

-- the variable of two kinds is in the row of the first
record IsInRow (vars : Variables) (i j : ℕ) : Type 0 where
  before : ℕ
  row_of : suc before ≡ i
  variable : order_variable vars i j ≡ row vars.order_base vars.kinds before + (j - i)

-- each is
in_row : (vars : Variables) (i j : ℕ) → IsKind vars i → IsInRow vars i j
in_row vars zero j is_kind = absurd (omega (arith, is_kind.from_one))
in_row vars (suc n) j is_kind =
    let few : n ≤ vars.kinds = omega (arith, is_kind.up_to) in
    let one_less : n ≡ suc n - 1 = omega arith in
    record {
      before = n;
      row_of = refl;
      variable =
          subst (λ p. vars.order_base + p * vars.kinds - suc n * p / 2 + (j - suc n) ≡ row vars.order_base vars.kinds n + (j - suc n)) one_less
          (ap (λ begins. begins + (j - suc n)) (row_is vars.order_base vars.kinds n few));
    }

-- the triangle below a number is half of a product
triangle_below : (kinds : ℕ) → kinds * (kinds - 1) / 2 + kinds ≡ triangle kinds
triangle_below zero = refl
triangle_below (suc n) = let double = double_triangle n in let less : suc n - 1 ≡ n = omega arith in
    subst (λ k. suc n * k / 2 + suc n ≡ triangle (suc n)) (sym less) (omega (arith, double))

-- all rows end with the last variable
rows_end : (vars : Variables) → row vars.order_base vars.kinds vars.kinds ≡ variable_count vars
rows_end vars =
    let full = row_triangle vars.order_base vars.kinds vars.kinds (omega arith) in
    let below = triangle_below vars.kinds in
    let double = square_triangle vars.kinds in
    omega (arith, full, below, double)

-- no variable of order is past the last one
pub order_within : (vars : Variables) (i j : ℕ) → IsKind vars i → IsKind vars j → i < j → order_variable vars i j ≤ variable_count vars
order_within vars i j kind_i kind_j less =
    let placed = in_row vars i j kind_i in
    let row_i = placed.row_of in
    let up_to = kind_j.up_to in
    let ends = rows_end vars in
    let in_order = rows_in_order vars.order_base vars.kinds placed.before vars.kinds (omega arith) in
    subst (λ n. n ≤ variable_count vars) (sym placed.variable) (omega (arith, in_order, ends))

-- nor is that of the literal of two kinds
pub literal_within : (vars : Variables) (i j : ℕ) → IsKind vars i → IsKind vars j → i ≢ j → (stands_before vars i j).var ≤ variable_count vars
literal_within vars i j kind_i kind_j apart =
    cond_both (ltb i j) (positive (order_variable vars i j)) (negated (positive (order_variable vars j i))) (λ l. l.var ≤ variable_count vars)
    (λ less. order_within vars i j kind_i kind_j (ltb-true i j less))
    (λ no_less. let no_later = ltb-false i j no_less in order_within vars j i kind_j kind_i (omega (arith, no_later, apart)))
