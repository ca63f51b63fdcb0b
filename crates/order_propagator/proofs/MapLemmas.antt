-- Lists over which a function was mapped.
use Rattle.std.proofs.Common.{◌≡◌, ℕ, suc, Some, List, [], ◌∷◌, ◌++◌, map, slice_get, ap, refl, ap₂, All}
use Rattle.std.proofs.lemmas.List.Elements.{All-head, All-tail}

-- a list in three parts whose images these are
pub record IsSplit {X A : Type 0} (f : X → A) (xs : List X) (before : List A) (item : A) (after : List A) : Type 0 where
  pub first : List X
  pub middle : X
  pub last : List X
  pub whole : xs ≡ first ++ middle ∷ last
  pub before_is : map f first ≡ before
  pub item_is : f middle ≡ item
  pub after_is : map f last ≡ after

-- the parts of a mapped list come from parts of the list
pub mapped_split : {X A : Type 0} (f : X → A) (xs : List X) (before : List A) (item : A) (after : List A) → map f xs ≡ before ++ item ∷ after → IsSplit f xs before item after
mapped_split {X} {A} f [] [] item after same = absurd (let clash : ◌≡◌ {A = List A} [] (item ∷ after) = same in cc)
mapped_split {X} {A} f [] (b ∷ before) item after same = absurd (let clash : ◌≡◌ {A = List A} [] (b ∷ before ++ item ∷ after) = same in cc)
mapped_split {X} {A} f (x ∷ xs) [] item after same =
    let both : f x ∷ map f xs ≡ item ∷ after = same in
    record {
      first = [];
      middle = x;
      last = xs;
      whole = refl;
      before_is = refl;
      item_is = let is : f x ≡ item = cc in is;
      after_is = let is : map f xs ≡ after = cc in is;
    }
mapped_split {X} {A} f (x ∷ xs) (b ∷ before) item after same =
    let both : f x ∷ map f xs ≡ b ∷ (before ++ item ∷ after) = same in
    let head : f x ≡ b = cc in
    let tail : map f xs ≡ before ++ item ∷ after = cc in
    let rest = mapped_split f xs before item after tail in
    record {
      first = x ∷ rest.first;
      middle = rest.middle;
      last = rest.last;
      whole = ap (λ ys. x ∷ ys) rest.whole;
      before_is = ap₂ (λ y ys. y ∷ ys) head rest.before_is;
      item_is = rest.item_is;
      after_is = rest.after_is;
    }

-- functions that agree on the items of a list have one image
pub map_agree : {X A : Type 0} (f g : X → A) (xs : List X) → ((i : ℕ) (x : X) → slice_get xs i ≡ Some x → f x ≡ g x) → map f xs ≡ map g xs
map_agree f g [] same = refl
map_agree f g (x ∷ xs) same = ap₂ (λ y ys. y ∷ ys) (same 0 x refl) (map_agree f g xs (λ i y got. same (suc i) y got))

-- the same by a fact of all items
pub map_agree_all : {X A : Type 0} (P : X → Type 0) (f g : X → A) (xs : List X) → ((x : X) → P x → f x ≡ g x) → All P xs → map f xs ≡ map g xs
map_agree_all P f g [] same all = refl
map_agree_all P f g (x ∷ xs) same all = ap₂ (λ y ys. y ∷ ys) (same x (All-head P x xs all)) (map_agree_all P f g xs same (All-tail P x xs all))
