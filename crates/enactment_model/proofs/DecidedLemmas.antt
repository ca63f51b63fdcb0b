-- Facts that are decided: of items, of lists, and the least number of which one holds.
use Rattle.std.proofs.Common.{◌≡◌, ℕ, zero, suc, ◌<◌, ◌≤◌, ◌⊎◌, List, [], ◌∷◌, inl, inr, ⊎_elim, refl, sym, subst, arith}
use Rattle.std.specs.List.{Contains}
use Rattle.std.proofs.lemmas.Bool.{cases_lt}
use Rattle.list_base.proofs.Members.{cons_cases, here, nowhere, there}

-- the fact holds, or it does not
abbrev pub Decided : Type 0 → Type 0
Decided P = P ⊎ (¬ P)

-- some member has the property
abbrev pub HasMember : {X : Type 0} → (X → Type 0) → List X → Type 0
HasMember {X} P xs = (x : X) × Contains xs x × P x

-- whether a member has it is decided, if it is decided of each item
pub member_decided : {X : Type 0} (P : X → Type 0) → ((x : X) → Decided (P x)) → (xs : List X) → Decided (HasMember P xs)
member_decided P decide [] = inr (λ (x, among, holds). nowhere x among)
member_decided P decide (x ∷ xs) = elim (decide x) [
  | inl holds ↦ inl (x, here x xs, holds)
  | inr fails ↦ elim (member_decided P decide xs) [
    | inl (y, among, holds) ↦ inl (y, there x xs y among, holds)
    | inr none ↦ inr (λ (y, among, holds). elim (cons_cases x xs y among) [
      | inl same ↦ fails (subst P (sym same) holds)
      | inr later ↦ none (y, later, holds)
    ])
  ]
]

-- so is whether an item is a member, if equality is decided
pub contains_decided : {X : Type 0} → ((x y : X) → Decided (x ≡ y)) → (xs : List X) (x : X) → Decided (Contains xs x)
contains_decided decide xs x = elim (member_decided (λ y. y ≡ x) (λ y. decide y x) xs) [
  | inl (y, among, same) ↦ inl (subst (Contains xs) same among)
  | inr none ↦ inr (λ among. none (x, among, refl))
]

-- the least number of which the property holds
pub record Least (P : ℕ → Type 0) : Type 0 where
  pub number : ℕ
  pub holds : P number
  pub least : (k : ℕ) → k < number → ¬ P k

-- of each bound, some number below it is the least, or there is none
least_below : (P : ℕ → Type 0) → ((k : ℕ) → Decided (P k)) → (n : ℕ) → Least P ⊎ ((k : ℕ) → k < n → ¬ P k)
least_below P decide zero = inr (λ k below. absurd (omega arith))
least_below P decide (suc n) = elim (least_below P decide n) [
  | inl found ↦ inl found
  | inr none ↦ elim (decide n) [
    | inl holds ↦ inl (record { number = n; holds = holds; least = none })
    | inr fails ↦ inr (λ k below. ⊎_elim
        (λ (before : k < n). none k before)
        (λ (from : n ≤ k). let same : n ≡ k = omega arith in λ holds. fails (subst P (sym same) holds))
        (cases_lt k n))
  ]
]

-- if it holds of some number, it holds of a least one
pub least_of : (P : ℕ → Type 0) → ((k : ℕ) → Decided (P k)) → (n : ℕ) → P n → Least P
least_of P decide n holds = elim (least_below P decide (suc n)) [
  | inl found ↦ found
  | inr none ↦ absurd (none n (omega arith) holds)
]
