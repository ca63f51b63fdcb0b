-- A literal is known by its rank: two literals of one rank are one.
use Rattle.std.proofs.Common.{◌≡◌, ◌≢◌, ◌⊎◌, inl, inr, ℕ, ◌+◌, ◌*◌, Bool, true, false, if◌then◌else◌, not, true≢false, sym, refl, ap, ap₂, arith}
use Rattle.std.proofs.lemmas.Bool.{cases_eq}
use Rattle.clause_core.specs.declared.literal.Lit.{Lit}
use Rattle.clause_core.specs.Literal.{rank, negated, MakesTrue}

same_parts : (a b : ℕ) (p q : Bool) → 2 * a + (if p then 1 else 0) ≡ 2 * b + (if q then 1 else 0) → (a ≡ b) × (p ≡ q)
same_parts a b true true same = (omega arith, refl)
same_parts a b true false same = absurd (omega arith)
same_parts a b false true same = absurd (omega arith)
same_parts a b false false same = (omega arith, refl)

literal : ℕ → Bool → Lit
literal v p = record { var = v; positive = p }

-- two literals of one rank are one
pub same_rank : (l m : Lit) → rank l ≡ rank m → l ≡ m
unfolding literal
same_rank l m same =
    let parts = same_parts l.var m.var l.positive m.positive same in ap₂ literal parts.0 parts.1

pub same_or_not : (l m : Lit) → (l ≡ m) ⊎ (l ≢ m)
same_or_not l m =
    elim (cases_eq (rank l) (rank m)) [ inl same ↦ inl (same_rank l m same) | inr other ↦ inr (λ same. other (ap rank same)) ]

not_both : (b p : Bool) → b ≡ p → b ≡ not p → ⊥
not_both true true is opposite = true≢false opposite
not_both true false is opposite = true≢false is
not_both false true is opposite = true≢false (sym is)
not_both false false is opposite = true≢false (sym opposite)

-- no valuation makes a literal and its negation true
pub one_of_both : (v : ℕ → Bool) (l : Lit) → MakesTrue v l → ¬ MakesTrue v (negated l)
one_of_both v l is_true is_false = not_both (v l.var) l.positive is_true is_false
