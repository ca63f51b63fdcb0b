-- Which kind stands before which, and a kind put among others in their order.
use Rattle.std.specs.Prelude.{◌≡◌, ◌≢◌, ℕ, ◌<◌, ◌↔◌, Bool, true, not, if◌then◌else◌}
use Rattle.std.specs.Prelude.{List, ◌∷◌, ◌++◌}
use Rattle.std.specs.List.{AllPairs, Contains, filter}
use Rattle.clause_core.specs.declared.literal.Lit.{Lit}
use Rattle.clause_encoding.specs.declared.variables.Variables.{Variables}
use Rattle.clause_encoding.specs.Variables.{IsKind, stands_before}

-- the valuation makes the literal true
abbrev pub is_true : (ℕ → Bool) → Lit → Bool
is_true v l = if l.positive then v l.var else not (v l.var)

-- kind `i` stands before kind `j`
abbrev pub is_before : Variables → (ℕ → Bool) → ℕ → ℕ → Bool
is_before vars v i j = is_true v (stands_before vars i j)

-- one stands before the other
pub record StandsBefore (vars : Variables) (v : ℕ → Bool) (i j : ℕ) : Type 0 where
  pub apart : i ≢ j
  pub before : is_before vars v i j ≡ true

-- the number is that of a kind, and of another one
pub record IsAnotherKind (vars : Variables) (kind other : ℕ) : Type 0 where
  pub is_kind : IsKind vars other
  pub apart : other ≢ kind

-- the kinds before it, the kind, and those after it
abbrev pub inserted : Variables → (ℕ → Bool) → ℕ → List ℕ → List ℕ
inserted vars v kind kinds =
    filter (λ k. is_before vars v k kind) kinds ++ kind ∷
    filter (λ k. not (is_before vars v k kind)) kinds

-- the kinds below a number that occur, each before the later ones
pub record AreOrderedBelow (vars : Variables) (v : ℕ → Bool) (n : ℕ) (kinds : List ℕ)
    : Type 0 where
  pub occurring : (kind : ℕ) → Contains kinds kind ↔
      (IsKind vars kind × (kind < n) × (v kind ≡ true))
  pub ordered : AllPairs (StandsBefore vars v) kinds
