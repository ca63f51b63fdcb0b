-- Parts of the clauses on what is unbound, and on what a sender lacks.
use Rattle.std.specs.Prelude.{◌≡◌, ℕ, ◌+◌, ◌==◌, ◌≤◌, if◌then◌else◌, List, [], ◌∷◌, length, map}
use Rattle.std.specs.List.{enumerate_from, filter}
use Rattle.bspl_types.specs.declared.expanded.Expanded.{Expanded}
use Rattle.bspl_types.specs.Expansion.{message_of}
use Rattle.clause_core.specs.declared.literal.Lit.{Lit}
use Rattle.clause_core.specs.Literal.{negated, positive}
use Rattle.clause_core.specs.Written.{Written}
use Rattle.clause_encoding.specs.declared.wants.Want.{Want}
use Rattle.clause_encoding.specs.Carriers.{binds}
use Rattle.clause_encoding.specs.Rest.{public_values, wants_of}
use Rattle.clause_encoding.specs.Variables.{kind_count, occurs, sent}

-- the public parameters with values and the wants of a protocol; there are few of each
pub record AreValuesAndWants (x : Expanded) (values : List ℕ) (wants : List Want) : Type 0 where
  pub values_are : values ≡ public_values x
  pub few_values : length values ≤ 64
  pub wants_are : wants ≡ wants_of x
  pub few_wants : length wants ≤ 1024

-- the public parameters with values, and the variable of the first one
pub record AreValues (x : Expanded) (first : ℕ) (values : List ℕ) : Type 0 where
  pub all : values ≡ public_values x
  pub from : first ≡ kind_count x + 1
  pub few : first + length values ≤ 4096

-- the wants, and the variable of the first one
pub record AreWants (x : Expanded) (first : ℕ) (wants : List Want) : Type 0 where
  pub all : wants ≡ wants_of x
  pub from : first ≡ kind_count x + length (public_values x) + 1
  pub few : first + length wants ≤ 4096

-- the kind does not occur if the variable is true
abbrev pub absence_clause : ℕ → ℕ → Written
absence_clause v kind = negated (positive v) ∷ negated (occurs kind) ∷ []

-- the clause of one message, if it adorns the parameter `in` or `out`
abbrev pub unbound_by : Expanded → ℕ → ℕ → ℕ → List Written
unbound_by x v p m = if binds (message_of x m) p then absence_clause v (sent m) ∷ [] else []

-- the literals that the sender of the message lacks a parameter, by the variable of the first want
abbrev pub wanted_lits : ℕ → List Want → ℕ → List Lit
wanted_lits first wants m =
    map positive (map (λ (v, _). v)
    (filter (λ (_, want). want.message == m) (enumerate_from first wants)))
