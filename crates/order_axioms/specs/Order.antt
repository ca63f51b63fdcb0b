-- A strict order as clauses: of two kinds one comes before the other, and no three come before one
-- another in a cycle.
use Rattle.std.specs.Prelude.{◌≢◌, ℕ, ◌+◌, ◌-◌, ◌*◌, ◌/◌, ◌<◌, ◌≤◌, Bool, true, false, not, nat_lt, if◌then◌else◌, List, [], ◌∷◌, AllPairs}
use Rattle.std.specs.List.{flat_map, range_with_len}
use Rattle.clause_core.specs.declared.literal.Lit.{Lit}
use Rattle.clause_core.specs.Clause.{HasExactly, IsAscending}
use Rattle.clause_core.specs.Literal.{negated}
use Rattle.clause_core.specs.Numbering.{HasNumber, numbered}
use Rattle.order_axioms.specs.declared.order.Order.{Order}

-- the kinds after one, in order; those after 0 are all
abbrev pub kinds_after : Order → ℕ → List ℕ
kinds_after order kind = range_with_len (kind + 1) (order.kinds - kind)

-- for i < j, the number of the variable that says whether kind `i` comes before kind `j`: the pairs
-- are numbered in lexicographic order, after the variables up to `base`
abbrev pub pair_variable : Order → ℕ → ℕ → ℕ
pair_variable order i j = order.base + (i - 1) * order.kinds - i * (i - 1) / 2 + (j - i)

-- the kinds are three of the order, in ascending order
pub record AreRising (order : Order) (i j k : ℕ) : Type 0 where
  pub from_one : 0 < i
  pub first : i < j
  pub second : j < k
  pub up_to : k ≤ order.kinds

-- for i < j < k, the clause that forbids that i comes before j, j before k and k before i, or the
-- cycle backward; its literals are in the order of their variables
abbrev pub cycle_clause : Order → Bool → ℕ → ℕ → ℕ → List Lit
cycle_clause order backward i j k =
    record { var = pair_variable order i j; positive = backward } ∷
    record { var = pair_variable order i k; positive = not backward } ∷
    record { var = pair_variable order j k; positive = backward } ∷ []

-- the clauses of three kinds
abbrev pub cycles_of_three : Order → ℕ → ℕ → ℕ → List (List Lit)
cycles_of_three order i j k =
    cycle_clause order false i j k ∷ cycle_clause order true i j k ∷ []

-- those of two kinds with each later one, and those of one kind with each two later ones
abbrev pub cycles_of_two : Order → ℕ → ℕ → List (List Lit)
cycles_of_two order i j = flat_map (cycles_of_three order i j) (kinds_after order j)

abbrev pub cycles_of_one : Order → ℕ → List (List Lit)
cycles_of_one order i = flat_map (cycles_of_two order i) (kinds_after order i)

-- all clauses of the order: those of i < j < k, in lexicographic order
abbrev pub order_list : Order → List (List Lit)
order_list order = flat_map (cycles_of_one order) (kinds_after order 0)

-- kind `x` comes before kind `y`
abbrev pub comes_before : Order → ℕ → ℕ → Lit
comes_before order x y =
    if nat_lt x y then record { var = pair_variable order x y; positive = true }
    else record { var = pair_variable order y x; positive = false }

-- the kinds are two of the order
pub record AreTwoKinds (order : Order) (x y : ℕ) : Type 0 where
  pub from_one : (0 < x) × (0 < y)
  pub up_to : (x ≤ order.kinds) × (y ≤ order.kinds)
  pub distinct : x ≢ y

-- the kinds are three of the order
pub record AreKinds (order : Order) (x y z : ℕ) : Type 0 where
  pub from_one : (0 < x) × (0 < y) × (0 < z)
  pub up_to : (x ≤ order.kinds) × (y ≤ order.kinds) × (z ≤ order.kinds)
  pub distinct : (x ≢ y) × (y ≢ z) × (z ≢ x)

-- x does not come before y, or y not before z, or z not before x
abbrev pub forbidden_cycle : Order → ℕ → ℕ → ℕ → List Lit
forbidden_cycle order x y z =
    negated (comes_before order x y) ∷ negated (comes_before order y z) ∷
    negated (comes_before order z x) ∷ []

-- the clause of the number forbids that x comes before y, y before z and z before x
pub record ForbidsCycle (order : Order) (number x y z : ℕ) : Type 0 where
  pub clause : List Lit
  pub has_number : HasNumber (numbered (order_list order)) number clause
  pub exactly : HasExactly clause (forbidden_cycle order x y z)

-- the clause forbids a cycle of three kinds, and its literals are of three variables
pub record ForbidsSomeCycle (order : Order) (clause : List Lit) : Type 0 where
  pub x : ℕ
  pub y : ℕ
  pub z : ℕ
  pub kinds : AreKinds order x y z
  pub exactly : HasExactly clause (forbidden_cycle order x y z)
  pub apart : AllPairs (λ l m. l.var ≢ m.var) (forbidden_cycle order x y z)

-- each clause of an order forbids a cycle of three kinds
abbrev pub ClausesForbidCycles : Type 0
ClausesForbidCycles =
    (order : Order) (number : ℕ) (clause : List Lit) →
    HasNumber (numbered (order_list order)) number clause → ForbidsSomeCycle order clause

-- the literals of a clause that forbids a cycle ascend
abbrev pub CycleClausesAscend : Type 0
CycleClausesAscend =
    (order : Order) (backward : Bool) (i j k : ℕ) →
    AreRising order i j k → IsAscending (cycle_clause order backward i j k)
