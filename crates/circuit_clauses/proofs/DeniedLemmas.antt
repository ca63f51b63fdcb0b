-- A denied condition is met exactly where the condition is not.
use Rattle.std.proofs.Common.{◌≡◌, ◌⊎◌, ℕ, Bool, true, false, not, inl, inr, refl, sym, ⊎_elim}
use Rattle.std.proofs.lemmas.Bool.{false≢true}
use Rattle.circuit_clauses.specs.Condition.{Condition, Literal, Both, Either, Always, Never, Meets, denied}
use Rattle.circuit_clauses.specs.Laws.{DeniedIsNotMet}

-- a value is the one or the other
one_of_two : (a b : Bool) → (a ≡ b) ⊎ (a ≡ not b)
one_of_two true true = inl refl
one_of_two true false = inr refl
one_of_two false true = inr refl
one_of_two false false = inl refl

-- and not both
not_both : (a b : Bool) → a ≡ b → a ≡ not b → ⊥
not_both true true is other = false≢true (sym other)
not_both true false is other = false≢true (sym is)
not_both false true is other = false≢true is
not_both false false is other = false≢true other

-- the condition is met, or the denied one is
pub met_or_denied : (c : Condition) (v : ℕ → Bool) → Meets v c ⊎ Meets v (denied c)
met_or_denied (Literal l) v = one_of_two (v l.var) l.positive
met_or_denied (Both c d) v =
    ⊎_elim
    (λ met. ⊎_elim (λ also. inl (met, also)) (λ denied. inr (inr denied)) (met_or_denied d v))
    (λ denied. inr (inl denied))
    (met_or_denied c v)
met_or_denied (Either c d) v =
    ⊎_elim
    (λ met. inl (inl met))
    (λ denied. ⊎_elim (λ met. inl (inr met)) (λ also. inr (denied, also)) (met_or_denied d v))
    (met_or_denied c v)
met_or_denied Always v = inl tt
met_or_denied Never v = inr tt

-- and not both
pub met_not_denied : (c : Condition) (v : ℕ → Bool) → Meets v c → Meets v (denied c) → ⊥
met_not_denied (Literal l) v met denied = not_both (v l.var) l.positive met denied
met_not_denied (Both c d) v met denied = ⊎_elim (met_not_denied c v met.0) (met_not_denied d v met.1) denied
met_not_denied (Either c d) v met denied =
    ⊎_elim (λ left. met_not_denied c v left denied.0) (λ right. met_not_denied d v right denied.1) met
met_not_denied Always v met denied = denied
met_not_denied Never v met denied = met

-- so it is met exactly where the condition is not
pub denied_is_not_met : DeniedIsNotMet
denied_is_not_met c v = (
  λ denied met. met_not_denied c v met denied,
  λ unmet. ⊎_elim (λ met. absurd (unmet met)) (λ denied. denied) (met_or_denied c v),
)
