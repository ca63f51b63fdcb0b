-- The resolvent of two clauses on a pivot.
use Rattle.std.specs.Prelude.{◌≡◌, ◌≢◌, ◌↔◌, ◌⊎◌, List, Contains}
use Rattle.clause_core.specs.declared.literal.Lit.{Lit}
use Rattle.clause_core.specs.Literal.{negated}
use Rattle.clause_core.specs.Clause.{IsAscending, Entails}

-- the literal is in the clause and is not the one that resolution takes out
abbrev pub Keeps : List Lit → Lit → Lit → Type 0
Keeps clause out l = Contains clause l × (l ≢ out)

-- `r` has the literals of `c` but `left`, and those of `d` but `right`
pub record IsUnion
    (c : List Lit) (left : Lit) (d : List Lit) (right : Lit) (r : List Lit) : Type 0 where
  pub members : (l : Lit) → Contains r l ↔ (Keeps c left l ⊎ Keeps d right l)
  pub ascending : IsAscending r

-- the pivot is in the first clause and its negation in the second
pub record CanResolve (c : List Lit) (pivot : Lit) (d : List Lit) : Type 0 where
  pub pivot_in : Contains c pivot
  pub negation_in : Contains d (negated pivot)

-- `r` is the clause of `c` without the pivot together with `d` without its negation
pub record IsResolvent (c : List Lit) (pivot : Lit) (d r : List Lit) : Type 0 where
  pub can : CanResolve c pivot d
  pub union : IsUnion c pivot d (negated pivot) r

-- two clauses have at most one resolvent on a pivot
abbrev pub ResolventsAgree : Type 0
ResolventsAgree =
    (c d r s : List Lit) (l : Lit) → IsResolvent c l d r → IsResolvent c l d s → r ≡ s

-- a resolvent holds wherever both clauses hold
abbrev pub ResolventsFollow : Type 0
ResolventsFollow = (c d r : List Lit) (l : Lit) → IsResolvent c l d r → Entails c d r
