-- The first index of a name, or of an item that passes a test.
use Rattle.std.proofs.Common.{◌≡◌, ℕ, zero, suc, ◌+◌, ◌<◌, ◌≤◌, Bool, true, false, cond, List, [], ◌∷◌, ◌++◌, length, map, get_or, Some, None, refl, sym, ◌∙◌, arith, inl, inr, ⊎_elim, eqb}
use Rattle.std.specs.Prelude.{◌↔◌, IsTrue, is_some, nat_lt, not}
use Rattle.std.specs.Option.{option_or}
use Rattle.std.specs.Str.{bytes_eq}
use Rattle.std.specs.List.{Contains, position, position_or_len}
use Rattle.std.proofs.lemmas.List.{length-append, length-map}
use Rattle.std.proofs.lemmas.List.Folds.{position_or_len_push}
use Rattle.std.proofs.lemmas.List.Sums.{prefix_len-le-length}
use Rattle.std.proofs.lemmas.List.Quantifiers.{position-Some}
use Rattle.std.proofs.lemmas.Bool.{cases_lt, cases_Bool, true≢false}
use Rattle.std.proofs.lemmas.Bool.Decides.{nat_tests}
use Rattle.std.proofs.lemmas.Slice.Eq.{bytes_eq-Decides}

-- the first index with one more item, by the first index without it
index_push : (n l : ℕ) (b : Bool) → n ≤ l → cond (nat_lt (cond (eqb n l) (l + cond b 0 1) n) (l + 1)) (Some (cond (eqb n l) (l + cond b 0 1) n)) None ≡ option_or (cond (nat_lt n l) (Some n) None) (cond b (Some l) None)
index_push n l true bound = grind (arith, nat_tests)
index_push n l false bound = grind (arith, nat_tests)

-- one item more has its index unless the test passes before
pub position_push : {X : Type 0} (p : X → Bool) (xs : List X) (y : X) → position p (xs ++ y ∷ []) ≡ option_or (position p xs) (cond (p y) (Some (length xs)) None)
position_push p xs y =
    let index = position_or_len_push p xs y in
    let long : length (xs ++ y ∷ []) ≡ length xs + 1 = length-append xs (y ∷ []) in
    (λ i. cond (nat_lt (index i) (long i)) (Some (index i)) None) ∙ index_push (position_or_len p xs) (length xs) (p y) (prefix_len-le-length (λ x. not (p x)) xs)

-- an index that passes bounds the first one
index_found : {X : Type 0} (p : X → Bool) (xs : List X) (k : ℕ) (d : X) → k < length xs → p (get_or xs k d) ≡ true → position_or_len p xs < length xs
index_found p [] k d within passes = absurd (omega (arith, within))
index_found p (x ∷ xs) k d within passes =
    ⊎_elim
    (λ yes. rw yes (omega arith))
    (λ none. rw none (elim k as (λ n. n < length (x ∷ xs) → p (get_or (x ∷ xs) n d) ≡ true → 1 + position_or_len p xs < length (x ∷ xs)) [
      | zero ↦ λ w q. absurd (true≢false (sym q ∙ none))
      | suc n ↦ λ w q. let later = index_found p xs n d (omega (arith, w)) q in omega (arith, later)
    ] within passes))
    (cases_Bool (p x))

-- the test for a name
abbrev pub is_name_at : List ℕ → List ℕ → Bool
is_name_at name n = bytes_eq n name

-- a name has an index exactly if it is among the names
pub has_index : (names : List (List ℕ)) (name : List ℕ) → IsTrue (is_some (position (λ n. bytes_eq n name) names)) ↔ Contains names name
has_index names name = (
  (λ some. elim (cases_lt (position_or_len (is_name_at name) names) (length names)) [
    | inl below ↦
        let at : position (is_name_at name) names ≡ Some (position_or_len (is_name_at name) names) = grind (arith, nat_tests) in
        let found = position-Some (is_name_at name) names (position_or_len (is_name_at name) names) name at in
        (position_or_len (is_name_at name) names, found.0, (bytes_eq-Decides _ _).0 found.1)
    | inr past ↦ absurd (grind (arith, nat_tests))
  ]),
  (λ among.
      let below = index_found (is_name_at name) names among.0 name among.1 ((bytes_eq-Decides _ _).1 among.2) in
      grind (arith, nat_tests)),
)

-- the first index that passes is within the list
pub first_index : {X : Type 0} (p : X → Bool) (xs : List X) → IsTrue (is_some (position p xs)) → (k : ℕ) × (k < length xs) × (position p xs ≡ Some k)
first_index p xs some = elim (cases_lt (position_or_len p xs) (length xs)) [
  | inl below ↦ (position_or_len p xs, below, grind (arith, nat_tests))
  | inr past ↦ absurd (grind (arith, nat_tests))
]

-- the first item whose name passes has the first name that passes
pub index_mapped : {X A : Type 0} (p : A → Bool) (f : X → A) (xs : List X) → position_or_len p (map f xs) ≡ position_or_len (λ x. p (f x)) xs
index_mapped p f [] = refl
index_mapped p f (x ∷ xs) = rw (index_mapped p f xs)

-- the first index of a name among the names of some items
pub named_index : {X : Type 0} (name : X → List ℕ) (xs : List X) (text : List ℕ) → Contains (map name xs) text → (k : ℕ) × (k < length xs) × (position (λ x. bytes_eq (name x) text) xs ≡ Some k)
named_index name xs text among = first_index (λ x. bytes_eq (name x) text) xs (
    let some : IsTrue (is_some (position (λ n. bytes_eq n text) (map name xs))) = (has_index (map name xs) text).1 among in
    rw (index_mapped (λ n. bytes_eq n text) name xs, length-map xs name) at some
    )
