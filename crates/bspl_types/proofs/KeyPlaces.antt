-- The places of keys, one parameter after another.
use Rattle.std.proofs.Common.{◌≡◌, ℕ, ◌+◌, ◌<◌, Bool, true, false, cond, List, [], ◌∷◌, ◌++◌, length, take, map, get_or, refl, ap, sym, ◌∙◌, arith, length-take}
use Rattle.std.specs.List.{filter, enumerate_from}
use Rattle.std.proofs.lemmas.List.{take_more}
use Rattle.bspl_types.specs.declared.protocol.ParamInfo.{ParamInfo}
use Rattle.bspl_types.specs.Shape.{key_indices}

-- the places of keys from a number on
places_from : ℕ → List ParamInfo → List ℕ
places_from n params = map (λ (place, _). place) (filter (λ (_, p). p.key) (enumerate_from n params))

-- a key adds its place before the others, and another parameter nothing
after : {X : Type 0} (b : Bool) (x : X) (xs ys : List X) → cond b (x ∷ (xs ++ ys)) (xs ++ ys) ≡ cond b (x ∷ xs) xs ++ ys
after true x xs ys = refl
after false x xs ys = refl

-- the place of the first, where it is a key, before those of the rest
first_of_pairs : (b : Bool) (n : ℕ) (q : ParamInfo) (rest : List (ℕ × ParamInfo)) → map (λ (place, _). place) (cond b ((n, q) ∷ rest) rest) ≡ cond b (n ∷ map (λ (place, _). place) rest) (map (λ (place, _). place) rest)
first_of_pairs true n q rest = refl
first_of_pairs false n q rest = refl

-- one more parameter adds its place where it is a key
places_from-push : (n : ℕ) (params : List ParamInfo) (p : ParamInfo) (place : ℕ) → place ≡ n + length params → places_from n (params ++ p ∷ []) ≡ places_from n params ++ cond p.key (place ∷ []) []
unfolding places_from
places_from-push n [] p place is_place = first_of_pairs p.key n p [] ∙ ap (λ k. cond p.key (k ∷ []) []) (let same : n ≡ place = omega (arith, is_place) in same)
places_from-push n (q ∷ params) p place is_place =
    first_of_pairs q.key n q (filter (λ (_, p). p.key) (enumerate_from (n + 1) (params ++ p ∷ [])))
    ∙ ap (λ ks. cond q.key (n ∷ ks) ks) (places_from-push (n + 1) params p place (omega (arith, is_place)))
    ∙ after q.key n (places_from (n + 1) params) (cond p.key (place ∷ []) [])
    ∙ ap (λ ks. ks ++ cond p.key (place ∷ []) []) (sym (first_of_pairs q.key n q (filter (λ (_, p). p.key) (enumerate_from (n + 1) params))))

-- the same in a loop over the parameters
pub key_places_more : (params : List ParamInfo) (i : ℕ) (p : ParamInfo) → i < length params → p ≡ get_or params i p → key_indices (take (i + 1) params) ≡ key_indices (take i params) ++ cond p.key (i ∷ []) []
unfolding places_from
key_places_more params i p within stands =
    ap key_indices (take_more params i p within)
    ∙ ap (λ q. key_indices (take i params ++ q ∷ [])) (sym stands)
    ∙ places_from-push 0 (take i params) p i (let long : length (take i params) ≡ i = grind (arith, length-take) in omega (arith, long))
