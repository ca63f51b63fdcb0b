-- What the clauses of a condition say. Each statement is the contract of a function.
use Rattle.std.specs.Prelude.{◌≡◌, ℕ, ◌+◌, ◌<◌, ◌≤◌, ◌⊎◌, ◌↔◌, Bool, []}
use Rattle.std.specs.List.{All}
use Rattle.clause_core.specs.Clause.{SatisfiesAll}
use Rattle.circuit_clauses.specs.Asserted.{asserted, asserted_count}
use Rattle.circuit_clauses.specs.Condition.{Condition, IsBelow, Meets, denied}

-- where the clauses hold, the condition is met
abbrev pub AssertedIsMet : Type 0
AssertedIsMet =
    (n : ℕ) (c : Condition) (v : ℕ → Bool) → SatisfiesAll v (asserted n [] c) → Meets v c

-- the other valuation has the same values but at `count` variables from `n` on
abbrev pub DiffersWithin : ℕ → ℕ → (ℕ → Bool) → (ℕ → Bool) → Type 0
DiffersWithin n count v w = (k : ℕ) → (k < n) ⊎ (n + count ≤ k) → w k ≡ v k

-- where the condition is met, the further variables have values with which the clauses hold
abbrev pub MetIsAsserted : Type 0
MetIsAsserted =
    (n : ℕ) (c : Condition) (v : ℕ → Bool) → IsBelow n c → Meets v c →
    (w : ℕ → Bool) × DiffersWithin n (asserted_count c) v w × SatisfiesAll w (asserted n [] c)

-- a denied condition is met exactly where the condition is not
abbrev pub DeniedIsNotMet : Type 0
DeniedIsNotMet = (c : Condition) (v : ℕ → Bool) → Meets v (denied c) ↔ ¬ Meets v c

-- no clause has a variable past the further ones
abbrev pub VariablesAreFurther : Type 0
VariablesAreFurther =
    (n : ℕ) (c : Condition) → IsBelow n c →
    All (All (λ l. l.var < n + asserted_count c)) (asserted n [] c)
