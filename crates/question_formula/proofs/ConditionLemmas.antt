-- What meets a condition on all of some, and on one of some.
use Rattle.std.proofs.Common.{ℕ, Bool, List, [], ◌∷◌, inl, inr, map, sym, subst, ⊎_elim, Contains}
use Rattle.list_base.proofs.Members.{cons_cases, here, nowhere, there}
use Rattle.circuit_clauses.specs.Condition.{Condition, Meets}
use Rattle.question_formula.specs.Conditions.{all_of, some_of}

module _ {X : Type 0} (v : ℕ → Bool) (f : X → Condition) where
  -- what meets the first and all of the others meets all
  pub met_first : (c : Condition) (xs : List X) → Meets v c → Meets v (all_of (map f xs)) → Meets v (all_of (c ∷ map f xs))
  met_first c [] first rest = first
  met_first c (y ∷ xs) first rest = (first, rest)

  -- what meets all meets the first and all of the others
  pub first_met : (c : Condition) (xs : List X) → Meets v (all_of (c ∷ map f xs)) → Meets v c × Meets v (all_of (map f xs))
  first_met c [] met = (met, tt)
  first_met c (y ∷ xs) met = (met.0, met.1)

  -- what meets the condition of each item meets all
  pub met_all : (xs : List X) → ((x : X) → Contains xs x → Meets v (f x)) → Meets v (all_of (map f xs))
  met_all [] each = tt
  met_all (x ∷ xs) each = met_first (f x) xs (each x (here x xs)) (met_all xs (λ y among. each y (there x xs y among)))

  -- and the other way
  pub all_met : (xs : List X) → Meets v (all_of (map f xs)) → (x : X) → Contains xs x → Meets v (f x)
  all_met [] met x among = absurd (nowhere x among)
  all_met (y ∷ xs) met x among =
      let (first, rest) = first_met (f y) xs met in
      ⊎_elim
      (λ is. subst (λ (z : X). Meets v (f z)) is first)
      (λ later. all_met xs rest x later)
      (cons_cases y xs x among)

  -- what meets the first meets one
  met_one_first : (x : X) (xs : List X) → Meets v (f x) → Meets v (some_of (map f (x ∷ xs)))
  met_one_first x [] first = first
  met_one_first x (y ∷ xs) first = inl first

  -- and so does what meets one of the others
  met_one_later : (x : X) (xs : List X) → Meets v (some_of (map f xs)) → Meets v (some_of (map f (x ∷ xs)))
  met_one_later x [] rest = absurd rest
  met_one_later x (y ∷ xs) rest = inr rest

  -- what meets the condition of an item meets one
  pub met_one : (xs : List X) (x : X) → Contains xs x → Meets v (f x) → Meets v (some_of (map f xs))
  met_one [] x among met = absurd (nowhere x among)
  met_one (y ∷ xs) x among met =
      ⊎_elim
      (λ is. met_one_first y xs (subst (λ (z : X). Meets v (f z)) (sym is) met))
      (λ later. met_one_later y xs (met_one xs x later met))
      (cons_cases y xs x among)

  -- an item whose condition is met
  pub record IsMetAmong (xs : List X) : Type 0 where
    pub item : X
    pub among : Contains xs item
    pub met : Meets v (f item)

  -- what meets one meets the condition of an item
  pub one_met : (xs : List X) → Meets v (some_of (map f xs)) → IsMetAmong xs
  one_met [] met = absurd met
  one_met (x ∷ []) met = record { item = x; among = here x []; met = met }
  one_met (x ∷ y ∷ xs) (inl first) = record { item = x; among = here x (y ∷ xs); met = first }
  one_met (x ∷ y ∷ xs) (inr rest) =
      let found = one_met (y ∷ xs) rest in
      record { item = found.item; among = there x (y ∷ xs) found.item found.among; met = found.met }
