-- The first item of a list that fails, found by a loop over it.
use Rattle.std.proofs.Common.{◌≡◌, ◌≢◌, ℕ, ◌+◌, ◌<◌, ◌≤◌, List, length, take, get_or, subst, sym, refl}
use Rattle.std.specs.List.{All, Any}
use Rattle.std.proofs.lemmas.List.{take_more, take_all, get_or_default}
use Rattle.std.proofs.lemmas.List.Quantifiers.{all_pairs_push}
use Rattle.std.proofs.lemmas.Option.{slice_get-get_or}
use Rattle.bspl_types.specs.declared.protocol.Carried.{Carried}
use Rattle.bspl_types.specs.Adornment.{Binds}
use Rattle.protocol_expand.specs.NotAdmitted.{HasDistinctParams, IsFirstRepeatedParam, IsFirstMissing}

-- what holds of the items that were passed holds of all once all were
pub all_passed : {X : Type 0} (P : X → Type 0) (xs : List X) (i : ℕ) → length xs ≤ i → All P (take i xs) → All P xs
all_passed P xs i past passed = subst (λ list. All P list) (take_all i xs past) passed

-- the parameters that were passed are distinct, and the next is none of them
pub distinct_more : (carried : List Carried) (i : ℕ) (d : Carried) → i < length carried → ((Any (λ c. c.param ≡ (get_or carried i d).param) (take i carried)) → ⊥) → HasDistinctParams (take i carried) → HasDistinctParams (take (i + 1) carried)
distinct_more carried i d within unlike distinct =
    subst (λ (front : List Carried). HasDistinctParams front) (sym (take_more carried i d within))
    (all_pairs_push (λ c e. c.param ≢ e.param) (take i carried) (get_or carried i d) distinct
    (λ k e before same. unlike (k, get_or (take i carried) k e, before, get_or_default (take i carried) k (get_or (take i carried) k e) e before, same)))

-- a key that is not bound, after those that are
pub first_missing : (carried : List Carried) (keys : List ℕ) (i : ℕ) → i < length keys → All (Binds carried) (take i keys) → ¬ Binds carried (get_or keys i 0) → IsFirstMissing carried keys (get_or keys i 0)
first_missing carried keys i within passed unbound =
    record { index = i; there = slice_get-get_or keys i 0 within; missing = unbound; bound = passed }

-- a parameter that is among those before it, which are distinct
pub first_repeated : (carried : List Carried) (i : ℕ) (d : Carried) → i < length carried → Any (λ c. c.param ≡ (get_or carried i d).param) (take i carried) → HasDistinctParams (take i carried) → IsFirstRepeatedParam carried (get_or carried i d).param
first_repeated carried i d within among passed =
    record { index = i; again = get_or carried i d; there = slice_get-get_or carried i d within; same = refl; earlier = among; distinct = passed }
