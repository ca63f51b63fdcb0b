-- Literals: their order, their negation, and when a valuation makes one true.
use Rattle.std.specs.Prelude.{◌≡◌, ℕ, ◌+◌, ◌*◌, Bool, true, not, if◌then◌else◌}
use Rattle.clause_core.specs.declared.literal.Lit.{Lit}

-- the order of literals: by variable, and a negative one before the positive one
abbrev pub rank : Lit → ℕ
rank l = 2 * l.var + (if l.positive then 1 else 0)

-- the literal that is true where this one is false
abbrev pub negated : Lit → Lit
negated l = record { var = l.var; positive = not l.positive }

-- the literal that is true where the variable is
abbrev pub positive : ℕ → Lit
positive v = record { var = v; positive = true }

-- the valuation makes the literal true
abbrev pub MakesTrue : (ℕ → Bool) → Lit → Type 0
MakesTrue v l = v l.var ≡ l.positive
