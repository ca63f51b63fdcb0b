-- The flat copies of stored clauses.
use Rattle.std.proofs.Common.{◌≡◌, ℕ, zero, suc, ◌-◌, ◌<◌, ◌≤◌, Option, Some, None, List, [], ◌∷◌, ◌++◌, length, get_or, set, map, sym, ap, refl, ◌∙◌, subst, arith}
use Rattle.std.specs.List.{AllZip}
use Rattle.std.specs.Prelude.{slice_get, IsSome}
use Rattle.std.proofs.lemmas.Option.{get_or_from_slice_get}
use Rattle.clause_core.specs.declared.literal.Lit.{Lit}
use Rattle.clause_core.specs.Numbering.{HasNumber, live}
use Rattle.sat_trail.specs.inner.Flat.{IsCopy}
use Rattle.sat_trail.proofs.NumberLemmas.{live-some, number_within, IsSome-number}

-- the clauses have their copies
abbrev pub AreCopies : List (Option (List Lit)) → List (List Lit) → Type 0
AreCopies copies clauses = AllZip IsCopy copies clauses

-- there are as many
pub copies-length : (copies : List (Option (List Lit))) (clauses : List (List Lit)) → AreCopies copies clauses → length copies ≡ length clauses
copies-length [] [] are = refl
copies-length [] (d ∷ rest) are = absurd are
copies-length (c ∷ copies) [] are = absurd are
copies-length (c ∷ copies) (d ∷ rest) are = omega (arith, copies-length copies rest are.1)

-- at first all clauses are live
pub copies-new : (clauses : List (List Lit)) → AreCopies (map Some clauses) clauses
copies-new [] = tt
copies-new (c ∷ rest) = (refl, copies-new rest)

-- one clause more
pub copies-push : (copies : List (Option (List Lit))) (clauses : List (List Lit)) (clause : List Lit) → AreCopies copies clauses → AreCopies (copies ++ Some clause ∷ []) (clauses ++ clause ∷ [])
copies-push [] [] clause are = (refl, tt)
copies-push [] (d ∷ rest) clause are = absurd are
copies-push (c ∷ copies) [] clause are = absurd are
copies-push (c ∷ copies) (d ∷ rest) clause are = (are.0, copies-push copies rest clause are.1)

-- one clause is no longer live
pub copies-set : (copies : List (Option (List Lit))) (clauses : List (List Lit)) (i : ℕ) → AreCopies copies clauses → AreCopies (set copies i None) clauses
copies-set [] clauses i are = are
copies-set (c ∷ copies) [] i are = absurd are
copies-set (c ∷ copies) (d ∷ rest) zero are = (tt, are.1)
copies-set (c ∷ copies) (d ∷ rest) (suc i) are = (are.0, copies-set copies rest i are.1)

-- the clause of a copy
pub copies-item : (copies : List (Option (List Lit))) (clauses : List (List Lit)) (i : ℕ) (lits d : List Lit) → AreCopies copies clauses → get_or copies i None ≡ Some lits → lits ≡ get_or clauses i d
copies-item [] clauses i lits d are got = absurd (let none : None ≡ Some lits = got in cc)
copies-item (c ∷ copies) [] i lits d are got = absurd are
copies-item (c ∷ copies) (e ∷ rest) zero lits d are got = let copy : IsCopy (Some lits) e = subst (λ o. IsCopy o e) got are.0 in copy
copies-item (c ∷ copies) (e ∷ rest) (suc i) lits d are got = copies-item copies rest i lits d are.1 got

-- a number with a clause is one of those that were given
pub live-within : (copies : List (Option (List Lit))) (clauses : List (List Lit)) (n : ℕ) → AreCopies copies clauses → IsSome (live copies n) → (0 < n) × (n ≤ length clauses)
live-within copies clauses n are some =
    let found = IsSome-number copies n some in
    let within = number_within copies n found.0 found.1 in
    (within.0, omega (arith, within.1, copies-length copies clauses are))

-- the live clause of a number is that of the list
pub live-clause : (copies : List (Option (List Lit))) (clauses : List (List Lit)) (n : ℕ) (c : List Lit) → AreCopies copies clauses → IsSome (live copies n) → get_or clauses (n - 1) c ≡ c → HasNumber (live copies) n c
live-clause copies clauses n c are some is =
    let found = IsSome-number copies n some in
    let within = number_within copies n found.0 found.1 in
    let got : get_or copies (n - 1) None ≡ Some found.0 = sym (live-some copies n (λ none. omega (arith, none, within.0))) ∙ found.1.there in
    record { there = found.1.there ∙ ap Some (copies-item copies clauses (n - 1) found.0 c are got ∙ is) }

-- an item of the second of two lists
pub right-item : {X : Type 0} (first second : List X) (i : ℕ) (x : X) → length first ≤ i → slice_get second (i - length first) ≡ Some x → get_or (first ++ second) i x ≡ x
right-item [] second i x past got = get_or_from_slice_get second i x x (subst (λ k. slice_get second k ≡ Some x) (let same : i - 0 ≡ i = omega arith in same) got)
right-item (f ∷ rest) second zero x past got = absurd (omega (arith, past))
right-item (f ∷ rest) second (suc i) x past got =
    let same : suc i - suc (length rest) ≡ i - length rest = omega arith in
    right-item rest second i x (omega (arith, past)) (subst (λ k. slice_get second k ≡ Some x) same got)
