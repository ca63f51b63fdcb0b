-- Conditions on literals: conjunctions and disjunctions, with negation at literals alone.
use Rattle.std.specs.Prelude.{ℕ, ◌<◌, ◌≤◌, Bool, ◌⊎◌}
use Rattle.clause_core.specs.declared.literal.Lit.{Lit}
use Rattle.clause_core.specs.Literal.{MakesTrue, negated}
use Rattle.circuit_clauses.specs.declared.circuit.Circuit.{Circuit}
use Rattle.circuit_clauses.specs.declared.circuit.Circuit.TheVariants as circuits

-- a condition in negation normal form
pub data Condition : Type 0 where
  Literal : (l : Lit) → Condition
  Both : (c d : Condition) → Condition
  Either : (c d : Condition) → Condition
  Always : Condition
  Never : Condition

-- the valuation meets the condition
abbrev pub Meets : (ℕ → Bool) → Condition → Type 0
Meets v (Literal l) = MakesTrue v l
Meets v (Both c d) = Meets v c × Meets v d
Meets v (Either c d) = Meets v c ⊎ Meets v d
Meets v Always = Unit {0}
Meets v Never = ⊥

-- the condition that is met exactly where this one is not
abbrev pub denied : Condition → Condition
denied (Literal l) = Literal (negated l)
denied (Both c d) = Either (denied c) (denied d)
denied (Either c d) = Both (denied c) (denied d)
denied Always = Never
denied Never = Always

-- each variable of the condition comes before the number
abbrev pub IsBelow : ℕ → Condition → Type 0
IsBelow n (Literal l) = l.var < n
IsBelow n (Both c d) = IsBelow n c × IsBelow n d
IsBelow n (Either c d) = IsBelow n c × IsBelow n d
IsBelow n Always = Unit {0}
IsBelow n Never = Unit {0}

-- each variable of the condition is one of those from 1 to the number
abbrev pub IsOver : ℕ → Condition → Type 0
IsOver n (Literal l) = (0 < l.var) × (l.var ≤ n)
IsOver n (Both c d) = IsOver n c × IsOver n d
IsOver n (Either c d) = IsOver n c × IsOver n d
IsOver n Always = Unit {0}
IsOver n Never = Unit {0}

-- the condition that the circuit stands for
abbrev pub condition_of : Circuit → Condition
condition_of (circuits.Literal l) = Literal l
condition_of (circuits.Both' _ c _ d) = Both (condition_of c) (condition_of d)
condition_of (circuits.Either' _ c _ d) = Either (condition_of c) (condition_of d)
condition_of circuits.Always = Always
condition_of circuits.Never = Never
