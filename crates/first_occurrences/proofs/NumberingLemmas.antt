-- The variables of order: each two kinds have one of their own, after all others.
use Rattle.std.proofs.Common.{◌≡◌, inl, inr, ℕ, zero, suc, ◌+◌, ◌-◌, ◌*◌, ◌/◌, ◌<◌, ◌≤◌, refl, sym, ap, ◌∙◌, subst, arith}
use Rattle.std.proofs.lemmas.Bool.{cases_order}
use Rattle.clause_encoding.specs.declared.variables.Variables.{Variables}
use Rattle.clause_encoding.specs.Variables.{IsKind, order_variable}

-- the sum of the numbers from 1
abbrev triangle : ℕ → ℕ
triangle zero = 0
triangle (suc n) = triangle n + suc n

-- half a product
double_triangle : (n : ℕ) → suc n * n ≡ 2 * triangle n
double_triangle zero = refl
double_triangle (suc n) = let rest = double_triangle n in omega (arith, rest)

-- what comes before the row of kind n + 1: the row of kind n has a variable for each kind after it
abbrev row : ℕ → ℕ → ℕ → ℕ
row base kinds zero = base
row base kinds (suc n) = row base kinds n + (kinds - suc n)

-- a row begins where so many full rows would, less a triangle
row_triangle : (base kinds n : ℕ) → n ≤ kinds → row base kinds n + triangle n ≡ base + n * kinds
row_triangle base kinds zero few = omega arith
row_triangle base kinds (suc n) few = let rest = row_triangle base kinds n (omega arith) in omega (arith, rest)

-- so it is written in the definition
row_is : (base kinds n : ℕ) → n ≤ kinds → base + n * kinds - suc n * n / 2 ≡ row base kinds n
row_is base kinds n few =
    let double = double_triangle n in
    let begins = row_triangle base kinds n few in
    omega (arith, double, begins)

-- no row begins before the first
row_after_base : (base kinds n : ℕ) → base ≤ row base kinds n
row_after_base base kinds zero = omega arith
row_after_base base kinds (suc n) = let rest = row_after_base base kinds n in omega (arith, rest)

-- a row ends before the later ones begin
rows_in_order : (base kinds n later : ℕ) → n < later → row base kinds (suc n) ≤ row base kinds later
rows_in_order base kinds n zero less = absurd (omega arith)
rows_in_order base kinds n (suc later) less =
    elim (cases_order n later) [
      | inl same ↦ subst (λ m. row base kinds (suc n) ≤ row base kinds (suc m)) same (omega arith)
      | inr (inl earlier) ↦ let rest = rows_in_order base kinds n later earlier in omega (arith, rest)
      | inr (inr past) ↦ absurd (omega arith)
    ]

-- the variable of two kinds is in the row of the first
record IsInRow (vars : Variables) (i j : ℕ) : Type 0 where
  before : ℕ
  row_of : suc before ≡ i
  variable : order_variable vars i j ≡ row vars.order_base vars.kinds before + (j - i)

-- each is
in_row : (vars : Variables) (i j : ℕ) → IsKind vars i → IsInRow vars i j
in_row vars zero j is_kind = absurd (omega (arith, is_kind.from_one))
in_row vars (suc n) j is_kind =
    let few : n ≤ vars.kinds = omega (arith, is_kind.up_to) in
    let one_less : n ≡ suc n - 1 = omega arith in
    record {
      before = n;
      row_of = refl;
      variable =
          subst (λ p. vars.order_base + p * vars.kinds - suc n * p / 2 + (j - suc n) ≡ row vars.order_base vars.kinds n + (j - suc n)) one_less
          (ap (λ begins. begins + (j - suc n)) (row_is vars.order_base vars.kinds n few));
    }

-- a variable of order comes after all others
pub order_after_base : (vars : Variables) (i j : ℕ) → IsKind vars i → i < j → vars.order_base < order_variable vars i j
order_after_base vars i j is_kind less =
    let placed = in_row vars i j is_kind in
    let after = row_after_base vars.order_base vars.kinds placed.before in
    subst (λ n. vars.order_base < n) (sym placed.variable) (omega (arith, after))

-- the variables of an earlier row are lower
rows_apart : (vars : Variables) (i j k l : ℕ) → IsKind vars i → IsKind vars k → j ≤ vars.kinds → i < k → k < l → order_variable vars i j < order_variable vars k l
rows_apart vars i j k l kind_i kind_k up_to less more =
    let one = in_row vars i j kind_i in
    let other = in_row vars k l kind_k in
    let row_i = one.row_of in
    let row_k = other.row_of in
    let apart = rows_in_order vars.order_base vars.kinds one.before other.before (omega arith) in
    subst (λ n. n < order_variable vars k l) (sym one.variable)
    (subst (λ n. row vars.order_base vars.kinds one.before + (j - i) < n) (sym other.variable) (omega (arith, apart)))

-- so two pairs with one variable have one first kind
same_first : (vars : Variables) (i j k l : ℕ) → IsKind vars i → IsKind vars j → IsKind vars k → IsKind vars l → i < j → k < l → order_variable vars i j ≡ order_variable vars k l → i ≡ k
same_first vars i j k l kind_i kind_j kind_k kind_l less more same =
    elim (cases_order i k) [
      | inl is ↦ is
      | inr (inl earlier) ↦ let apart = rows_apart vars i j k l kind_i kind_k kind_j.up_to earlier more in absurd (omega (arith, same, apart))
      | inr (inr later) ↦ let apart = rows_apart vars k l i j kind_k kind_i kind_l.up_to later less in absurd (omega (arith, same, apart))
    ]

-- and one second kind
same_second : (vars : Variables) (i j l : ℕ) → IsKind vars i → i < j → i < l → order_variable vars i j ≡ order_variable vars i l → j ≡ l
same_second vars i j l is_kind less more same =
    let one = in_row vars i j is_kind in
    let other = in_row vars i l is_kind in
    let row_one = one.row_of in
    let row_other = other.row_of in
    let one_row : one.before ≡ other.before = omega arith in
    let begins = ap (λ n. row vars.order_base vars.kinds n) one_row in
    let equal = sym one.variable ∙ same ∙ other.variable in
    omega (arith, begins, equal)

-- two pairs with one variable are one
pub record AreOnePair (i j k l : ℕ) : Type 0 where
  pub first : i ≡ k
  pub second : j ≡ l

-- so each pair has a variable of its own
pub one_pair : (vars : Variables) (i j k l : ℕ) → IsKind vars i → IsKind vars j → IsKind vars k → IsKind vars l → i < j → k < l → order_variable vars i j ≡ order_variable vars k l → AreOnePair i j k l
one_pair vars i j k l kind_i kind_j kind_k kind_l less more same =
    let first = same_first vars i j k l kind_i kind_j kind_k kind_l less more same in
    record {
      first = first;
      second = same_second vars i j l kind_i less (omega arith) (same ∙ ap (λ n. order_variable vars n l) (sym first));
    }
