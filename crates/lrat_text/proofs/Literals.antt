-- Literals: one rank is that of one literal, and a negation twice is the literal.
use Rattle.std.proofs.Common.{◌≡◌, ◌≢◌, ℕ, ◌+◌, ◌*◌, ◌⊎◌, inl, inr, Bool, true, false, not, refl, ap, ap₂, arith}
use Rattle.std.proofs.lemmas.Bool.{cases_eq}
use Rattle.std.specs.Prelude.{if◌then◌else◌}
use Rattle.clause_core.specs.declared.literal.Lit.{Lit}
use Rattle.clause_core.specs.Literal.{rank, negated}

same_parts : (a b : ℕ) (p q : Bool) → 2 * a + (if p then 1 else 0) ≡ 2 * b + (if q then 1 else 0) → (a ≡ b) × (p ≡ q)
same_parts a b true true same = (omega arith, refl)
same_parts a b true false same = absurd (omega arith)
same_parts a b false true same = absurd (omega arith)
same_parts a b false false same = (omega arith, refl)

literal : ℕ → Bool → Lit
literal v p = record { var = v; positive = p }

-- two literals of one rank are one
pub same_rank : (l m : Lit) → rank l ≡ rank m → l ≡ m
unfolding literal
same_rank l m same =
    let parts = same_parts l.var m.var l.positive m.positive same in ap₂ literal parts.0 parts.1

-- two literals are one or differ
pub one_or_two : (l m : Lit) → (l ≡ m) ⊎ (l ≢ m)
one_or_two l m = elim (cases_eq (rank l) (rank m)) [ inl same ↦ inl (same_rank l m same) | inr other ↦ inr (λ same. other (ap rank same)) ]

not_twice : (b : Bool) → not (not b) ≡ b
not_twice true = refl
not_twice false = refl

-- the negation of the negation is the literal
pub negated_twice : (l : Lit) → negated (negated l) ≡ l
unfolding literal
negated_twice l = ap (literal l.var) (not_twice l.positive)
