-- When values make "comes before" transitive, and when clauses that are made will do so.
use Rattle.std.specs.Prelude.{◌≡◌, ℕ, ◌<◌, ◌⊎◌, Bool, Option, Some, List, Contains}
use Rattle.clause_core.specs.declared.literal.Lit.{Lit}
use Rattle.order_axioms.specs.declared.order.Order.{Order}
use Rattle.order_axioms.specs.Order.{AreKinds, ForbidsCycle, comes_before}
use Rattle.sat_trail.specs.Entry.{values_of, up_to}
use Rattle.sat_trail.specs.State.{State}

-- the values make the literal true
abbrev pub IsSetTrue : (ℕ → Option Bool) → Lit → Type 0
IsSetTrue values l = values l.var ≡ Some l.positive

-- under the values kind `x` comes before kind `y`
abbrev pub Precedes : Order → (ℕ → Option Bool) → ℕ → ℕ → Type 0
Precedes order values x y = IsSetTrue values (comes_before order x y)

-- where `x` comes before `y`, what follows for a third kind is set
pub record NeedsNone (order : Order) (values : ℕ → Option Bool) (x y z : ℕ) : Type 0 where
  pub after : Precedes order values y z → Precedes order values x z
  pub before : Precedes order values z x → Precedes order values z y

-- of three kinds the first comes before the second, and something that follows is not set
pub record IsMissing (order : Order) (values : ℕ → Option Bool) (x y z : ℕ) : Type 0 where
  pub kinds : AreKinds order x y z
  pub before : Precedes order values x y
  pub lacks : ¬ NeedsNone order values x y z

-- the clause that forbids the cycle of the three kinds is among those of the names
pub record IsMade (order : Order) (names : List ℕ) (x y z : ℕ) : Type 0 where
  pub number : ℕ
  pub forbids : ForbidsCycle order number x y z
  pub among : Contains names number

-- kind `x` comes before kind `z`, or the clause is made that says so if `y` is between them
abbrev pub Follows : Order → List ℕ → (ℕ → Option Bool) → ℕ → ℕ → ℕ → Type 0
Follows order names now x y z = Precedes order now x z ⊎ IsMade order names x y z

-- what follows from the known values is among those of now, or its clause is made
pub record IsClosed
    (order : Order) (names : List ℕ) (known now : ℕ → Option Bool) : Type 0 where
  pub follows : (x y z : ℕ) → AreKinds order x y z →
      Precedes order known x y → Precedes order known y z → Follows order names now x y z

-- under the values, "comes before" is transitive
abbrev pub IsTransitive : Order → (ℕ → Option Bool) → Type 0
IsTransitive order values = (x y z : ℕ) → AreKinds order x y z →
    Precedes order values x y → Precedes order values y z → Precedes order values x z

-- it is so under the values of the levels up to each lower one
abbrev pub IsTransitiveBelow : Order → State → Type 0
IsTransitiveBelow order t = (level : ℕ) → level < t.level →
    IsTransitive order (values_of (up_to level t.entries))
