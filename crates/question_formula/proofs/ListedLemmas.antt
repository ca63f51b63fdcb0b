-- Which tests some item of a list passes, and the numbers from 0.
use Rattle.std.proofs.Common.{◌≡◌, ℕ, ◌<◌, Bool, true, false, cond, ◌&&◌, ◌||◌, List, [], ◌∷◌, map, refl, sym, ap, ◌∙◌, arith, zero-add, Contains}
use Rattle.std.specs.List.{filter, list_any, range_with_len}
use Rattle.std.proofs.lemmas.List.Folds.{Any-from_list_any, list_any-from_Any}
use Rattle.std.proofs.lemmas.List.FromFn.{get_or-range_with_len, length-range_with_len}

-- some item of a list passes if a member does
pub passes_by : {X : Type 0} (test : X → Bool) (xs : List X) (x : X) → Contains xs x → test x ≡ true → list_any test xs ≡ true
passes_by test xs x (k, within, is) passes = list_any-from_Any test xs (k, x, within, is, passes)

-- an item of a list that passes
pub record IsPassed {X : Type 0} (test : X → Bool) (xs : List X) : Type 0 where
  pub item : X
  pub among : Contains xs item
  pub passes : test item ≡ true

-- there is one if some item passes
pub passed : {X : Type 0} (test : X → Bool) (xs : List X) → list_any test xs ≡ true → IsPassed test xs
passed test xs some =
    let (k, x, within, is, passes) = Any-from_list_any test xs some in
    record { item = x; among = (k, within, is); passes = passes }

-- a number below the count is among the numbers from 0
pub range_member : (count n : ℕ) → n < count → Contains (range_with_len 0 count) n
range_member count n below = (n, omega (arith, length-range_with_len 0 count), get_or-range_with_len 0 count n n below ∙ zero-add n)

-- and each of these is below the count
pub range_bound : (count n : ℕ) → Contains (range_with_len 0 count) n → n < count
range_bound count n (k, within, is) =
    let below : k < count = omega (arith, length-range_with_len 0 count) in
    omega (arith, sym is ∙ get_or-range_with_len 0 count k n below)

-- an item that passes one test and whose image passes another: one of the images of those that pass the first
pub any_of_filtered : {X A : Type 0} (one : X → Bool) (f : X → A) (other : A → Bool) (xs : List X) → list_any (λ x. one x && other (f x)) xs ≡ list_any other (map f (filter one xs))
any_of_filtered one f other [] = refl
any_of_filtered one f other (x ∷ xs) = joins (one x) (any_of_filtered one f other xs)
  where
    joins : (b : Bool) → list_any (λ y. one y && other (f y)) xs ≡ list_any other (map f (filter one xs)) → ((b && other (f x)) || list_any (λ y. one y && other (f y)) xs) ≡ list_any other (map f (cond b (x ∷ filter one xs) (filter one xs)))
    joins true rest = ap (λ c. other (f x) || c) rest
    joins false rest = rest
