-- What a resolvent says, and that there is one at most.
use Rattle.std.proofs.Common.{◌≡◌, inl, inr, ℕ, Bool, List, Contains}
use Rattle.clause_core.specs.declared.literal.Lit.{Lit}
use Rattle.clause_core.specs.Literal.{negated, MakesTrue}
use Rattle.clause_core.specs.Clause.{Satisfies, Entails}
use Rattle.clause_core.specs.Resolvent.{IsResolvent}
use Rattle.clause_core.proofs.LiteralLemmas.{same_or_not, one_of_both}
use Rattle.clause_core.proofs.ClauseLemmas.{equal_clauses}

pub resolvent_one : (c d r s : List Lit) (l : Lit) → IsResolvent c l d r → IsResolvent c l d s → r ≡ s
resolvent_one c d r s l is_r is_s =
    equal_clauses r s is_r.union.ascending is_s.union.ascending (λ m. (λ among. (is_s.union.members m).1 ((is_r.union.members m).0 among), λ among. (is_r.union.members m).1 ((is_s.union.members m).0 among)))

satisfied : (v : ℕ → Bool) (r : List Lit) (l : Lit) → Contains r l → MakesTrue v l → Satisfies v r
satisfied v r l among is_true = (among.0, l, among.1, among.2, is_true)

-- a valuation makes a literal of each clause true; they are not the pivot and its negation
pub resolvent_follows : (c d r : List Lit) (l : Lit) → IsResolvent c l d r → Entails c d r
resolvent_follows c d r l is v (i, x, in_c, at_x, x_true) (j, y, in_d, at_y, y_true) =
    elim (same_or_not x l) [
      | inr kept ↦ satisfied v r x ((is.union.members x).1 (inl ((i, in_c, at_x), kept))) x_true
      | inl pivot ↦ elim (same_or_not y (negated l)) [
        | inr kept ↦ satisfied v r y ((is.union.members y).1 (inr ((j, in_d, at_y), kept))) y_true
        | inl negation ↦ absurd (one_of_both v l (rw pivot at x_true) (rw negation at y_true))
      ]
    ]
