-- The parameters whose values a sender chooses, one parameter further.
use Rattle.std.proofs.Common.{◌≡◌, ◌<◌, ◌+◌, ℕ, Bool, true, false, cond, List, [], ◌∷◌, ◌++◌, length, get_or, take, map, ap, ◌∙◌}
use Rattle.std.specs.List.{filter}
use Rattle.std.proofs.lemmas.List.{append-nil, map-append}
use Rattle.std.proofs.lemmas.List.Elements.{filter_more}

-- what the test keeps of the first items, and of it this
abbrev pub listed : {X A : Type 0} → (X → Bool) → (X → A) → List X → ℕ → List A
listed test f xs i = map f (filter test (take i xs))

module _ {X A : Type 0} (test : X → Bool) (f : X → A) (xs : List X) (i : ℕ) (d : X) (within : i < length xs) where
  -- the next item, as the test says
  listed_next : (b : Bool) → test (get_or xs i d) ≡ b → listed test f xs (i + 1) ≡ listed test f xs i ++ map f (cond b (get_or xs i d ∷ []) [])
  listed_next b is = ap (map f) (filter_more test xs i d within) ∙ map-append f (filter test (take i xs)) (cond (test (get_or xs i d)) (get_or xs i d ∷ []) []) ∙ ap (λ (k : Bool). listed test f xs i ++ map f (cond k (get_or xs i d ∷ []) [])) is

  -- it is kept
  pub listed_more : test (get_or xs i d) ≡ true → listed test f xs (i + 1) ≡ listed test f xs i ++ f (get_or xs i d) ∷ []
  listed_more is = listed_next true is

  -- it is not
  pub listed_same : test (get_or xs i d) ≡ false → listed test f xs (i + 1) ≡ listed test f xs i
  listed_same is = listed_next false is ∙ append-nil (listed test f xs i)
