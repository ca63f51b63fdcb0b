-- Lists made of other lists, by a map, by parts or by numbers: their members, and what each one has.
use Rattle.std.proofs.Common.{◌≡◌, ℕ, ◌+◌, ◌-◌, ◌<◌, ◌≤◌, Bool, true, false, List, [], ◌∷◌, inl, inr, length, map, get_or, sym, ap, ◌∙◌, subst, arith, zero-add, All, Contains}
use Rattle.std.specs.List.{Any, enumerate_from, flat_map, list_any, range_with_len}
use Rattle.std.proofs.lemmas.Bool.{both_ways, cases_Bool}
use Rattle.std.proofs.lemmas.List.{get_or_default}
use Rattle.std.proofs.lemmas.List.Elements.{All-append, All-contains_itself, All-map, All-nil, All-weaker, Contains-append_cases, Contains-append_left, Contains-append_right}
use Rattle.std.proofs.lemmas.List.Folds.{Any-from_list_any, list_any-from_Any}
use Rattle.std.proofs.lemmas.List.FromFn.{get_or-enumerate_from, get_or-range_with_len, length-enumerate_from, length-range_with_len}
use Rattle.list_base.proofs.Members.{cons_cases, here, here_same, nowhere, there}

-- what each member has, each item has
pub each_member : {X : Type 0} (P : X → Type 0) (xs : List X) → ((x : X) → Contains xs x → P x) → All P xs
each_member P xs each = All-weaker (Contains xs) P each xs (All-contains_itself xs)

-- what the image of each member has, each item of the map has
pub each_mapped : {X A : Type 0} (P : A → Type 0) (f : X → A) (xs : List X) → ((x : X) → Contains xs x → P (f x)) → All P (map f xs)
each_mapped P f xs each = All-map P f xs (each_member (λ x. P (f x)) xs each)

-- what the items of each part have, each item of the parts together has
pub each_joined : {X A : Type 0} (P : A → Type 0) (f : X → List A) (xs : List X) → ((x : X) → Contains xs x → All P (f x)) → All P (flat_map f xs)
each_joined P f [] each = All-nil P
each_joined P f (x ∷ xs) each = All-append P (f x) (flat_map f xs) (each x (here x xs)) (each_joined P f xs (λ y among. each y (there x xs y among)))

-- a member that has it is one of some
pub some_member : {X : Type 0} (P : X → Type 0) (xs : List X) (x : X) → Contains xs x → P x → Any P xs
some_member P xs x (k, within, is) holds = (k, x, within, is, holds)

-- some item of a list passes if a member does
pub passes_by : {X : Type 0} (test : X → Bool) (xs : List X) (x : X) → Contains xs x → test x ≡ true → list_any test xs ≡ true
passes_by test xs x among passes = list_any-from_Any test xs (some_member (λ y. test y ≡ true) xs x among passes)

-- an item of a list that passes
pub record IsPassed {X : Type 0} (test : X → Bool) (xs : List X) : Type 0 where
  pub item : X
  pub among : Contains xs item
  pub passes : test item ≡ true

-- there is one if some item passes
pub passed : {X : Type 0} (test : X → Bool) (xs : List X) → list_any test xs ≡ true → IsPassed test xs
passed test xs some =
    let (k, x, within, is, passes) = Any-from_list_any test xs some in
    record { item = x; among = (k, within, is); passes = passes }

-- if none passes, no member does
pub fails_by : {X : Type 0} (test : X → Bool) (xs : List X) (x : X) → list_any test xs ≡ false → Contains xs x → test x ≡ false
fails_by test xs x none among = elim (cases_Bool (test x)) [
  | inl passes ↦ absurd (both_ways (list_any test xs) none (passes_by test xs x among passes))
  | inr fails ↦ fails
]

-- the image of a member is in the map
pub mapped_member : {X A : Type 0} (f : X → A) (xs : List X) (x : X) → Contains xs x → Contains (map f xs) (f x)
mapped_member f [] x among = absurd (nowhere x among)
mapped_member f (y ∷ xs) x among = elim (cons_cases y xs x among) [
  | inl is ↦ here_same (f y) (map f xs) (f x) (ap f is)
  | inr later ↦ there (f y) (map f xs) (f x) (mapped_member f xs x later)
]

-- what is in the map is the image of a member
pub mapped_from : {X A : Type 0} (f : X → A) (xs : List X) (a : A) → Contains (map f xs) a → (x : X) × Contains xs x × (f x ≡ a)
mapped_from f [] a among = absurd (nowhere a among)
mapped_from f (y ∷ xs) a among = elim (cons_cases (f y) (map f xs) a among) [
  | inl is ↦ (y, here y xs, is)
  | inr later ↦ let (x, member, is) = mapped_from f xs a later in (x, there y xs x member, is)
]

-- what is in a part is in the parts together
pub joined_member : {X A : Type 0} (f : X → List A) (xs : List X) (x : X) (a : A) → Contains xs x → Contains (f x) a → Contains (flat_map f xs) a
joined_member f [] x a among part = absurd (nowhere x among)
joined_member {X} {A} f (y ∷ xs) x a among part = elim (cons_cases y xs x among) [
  | inl is ↦ Contains-append_left (f y) (flat_map f xs) a (subst (λ (z : X). Contains (f z) a) (sym is) part)
  | inr later ↦ Contains-append_right (f y) (flat_map f xs) a (joined_member f xs x a later part)
]

-- what is in the parts together is in one
pub joined_from : {X A : Type 0} (f : X → List A) (xs : List X) (a : A) → Contains (flat_map f xs) a → (x : X) × Contains xs x × Contains (f x) a
joined_from f [] a among = absurd (nowhere a among)
joined_from f (y ∷ xs) a among = elim (Contains-append_cases (f y) (flat_map f xs) a among) [
  | inl part ↦ (y, here y xs, part)
  | inr later ↦ let (x, member, part) = joined_from f xs a later in (x, there y xs x member, part)
]

-- a number below the count is among the numbers from 0
pub range_member : (count n : ℕ) → n < count → Contains (range_with_len 0 count) n
range_member count n below = (n, omega (arith, length-range_with_len 0 count), get_or-range_with_len 0 count n n below ∙ zero-add n)

-- and each of these is below the count
pub range_bound : (count n : ℕ) → Contains (range_with_len 0 count) n → n < count
range_bound count n (k, within, is) =
    let below : k < count = omega (arith, length-range_with_len 0 count) in
    omega (arith, sym is ∙ get_or-range_with_len 0 count k n below)

-- a member of a list has a number
pub numbered_member : {X : Type 0} (from : ℕ) (xs : List X) (x : X) → Contains xs x → (n : ℕ) × Contains (enumerate_from from xs) (n, x)
numbered_member {X} from xs x (k, within, is) = (
  from + k,
  (k, omega (arith, length-enumerate_from from xs), get_or-enumerate_from from xs k (from + k, x) within ∙ ap (λ (y : X). (from + k, y)) is),
)

-- the number is one of those from the first on, and tells the index of the item
pub record IsNumbered {X : Type 0} (from : ℕ) (xs : List X) (n : ℕ) (x : X) : Type 0 where
  pub from_first : from ≤ n
  pub up_to : n < from + length xs
  pub item : (d : X) → get_or xs (n - from) d ≡ x

-- each number of an item does
pub numbered_from : {X : Type 0} (from : ℕ) (xs : List X) (n : ℕ) (x : X) → Contains (enumerate_from from xs) (n, x) → IsNumbered from xs n x
numbered_from {X} from xs n x (k, within, is) =
    let known : k < length xs = omega (arith, length-enumerate_from from xs) in
    let pair = sym (get_or-enumerate_from from xs k (n, x) known) ∙ is in
    let number : from + k ≡ n = ap (λ (q : ℕ × X). q.0) pair in
    record {
      from_first = omega arith;
      up_to = omega arith;
      item = λ d. ap (λ i. get_or xs i d) (let same : n - from ≡ k = omega arith in same) ∙ get_or_default xs k d x known ∙ ap (λ (q : ℕ × X). q.1) pair;
    }

-- so the item is a member of the list
pub numbered_item : {X : Type 0} (from : ℕ) (xs : List X) (n : ℕ) (x : X) → Contains (enumerate_from from xs) (n, x) → Contains xs x
numbered_item from xs n x among =
    let numbered = numbered_from from xs n x among in
    (n - from, omega arith, numbered.item x)
