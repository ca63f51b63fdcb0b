-- Lists are scanned as their items are.
use Rattle.std.proofs.Common.{◌≡◌, ℕ, List, [], ◌∷◌, ◌++◌, map, refl, sym}
use Rattle.std.specs.List.{flat_map, join_by}
use Rattle.bspl_parser.specs.Layout.{comma_prefixed, comma_separated}
use Rattle.bspl_parser.specs.Sign.{Sign, after_commas, listed}
use Rattle.bspl_parser.specs.Tokens.{IsGap, nothing}
use Rattle.bspl_parser.proofs.MaximalMunch.{IsSeparated, at_comma}
use Rattle.bspl_parser.proofs.PrintsBack.{PrintsBack, PrintsBack-as, PrintsBack-before, PrintsBack-then, Anything, gap_prints_back}
use Rattle.bspl_parser.proofs.PrintsBackTokens.{comma_prints_back}

-- lists of equal heads and tails
cons_same : {X : Type 0} (x y : X) (xs ys : List X) → x ≡ y → xs ≡ ys → x ∷ xs ≡ y ∷ ys
cons_same x y xs ys heads tails = cc

module _ {X : Type 0} (text : X → List ℕ) (signs : X → List Sign) (bare : X → X) where
  -- equal to the list but for offsets
  abbrev Alike : List X → List X → Type 0
  Alike xs ys = map bare ys ≡ map bare xs

  -- nothing, for the empty list
  empty_prints_back : (May : List ℕ → Type 0) (signs_of : List X → List Sign) → signs_of [] ≡ [] → PrintsBack May [] signs_of (Alike [])
  empty_prints_back May signs_of no_signs = PrintsBack-as signs_of (Alike []) (λ (u : Unit {0}). []) (λ u. sym no_signs) (λ u like. refl) (PrintsBack-before May (λ rest must. tt) (gap_prints_back nothing))

  -- before commas, or what separates
  pub commas_separated : (xs : List X) (rest : List ℕ) → IsSeparated rest → IsSeparated (comma_prefixed text xs ++ rest)
  commas_separated [] rest separated = separated
  commas_separated (x ∷ xs) rest separated = at_comma _

  module _ (one : (x : X) → PrintsBack IsSeparated (text x) signs (λ y. bare y ≡ bare x)) where
    -- each after a comma
    pub commas_prints_back : (xs : List X) → PrintsBack IsSeparated (comma_prefixed text xs) (after_commas signs) (Alike xs)
    commas_prints_back [] = empty_prints_back IsSeparated (after_commas signs) refl
    commas_prints_back (x ∷ xs) =
        PrintsBack-as (after_commas signs) (Alike (x ∷ xs)) (λ (v : (ℕ × X) × List X). v.0.1 ∷ v.1) (λ v. refl) (λ v like. cons_same (bare v.0.1) (bare x) (map bare v.1) (map bare xs) like.0.1 like.1)
        (PrintsBack-then (commas_separated xs) (PrintsBack-then (λ rest must. tt) comma_prints_back (one x)) (commas_prints_back xs))

    -- a comma between each two
    pub list_prints_back : (xs : List X) → PrintsBack IsSeparated (comma_separated text xs) (listed signs) (Alike xs)
    list_prints_back [] = empty_prints_back IsSeparated (listed signs) refl
    list_prints_back (x ∷ xs) =
        PrintsBack-as (listed signs) (Alike (x ∷ xs)) (λ (v : X × List X). v.0 ∷ v.1) (λ v. refl) (λ v like. cons_same (bare v.0) (bare x) (map bare v.1) (map bare xs) like.0 like.1)
        (PrintsBack-then (commas_separated xs) (one x) (commas_prints_back xs))

  module _ (one : (x : X) → PrintsBack Anything (text x) signs (λ y. bare y ≡ bare x)) (gap : List ℕ) (is_gap : IsGap gap) where
    -- each after a gap
    pub each_prints_back : (xs : List X) → PrintsBack Anything (flat_map (λ x. gap ++ text x) xs) (λ (ys : List X). flat_map signs ys) (Alike xs)
    each_prints_back [] = empty_prints_back Anything (λ ys. flat_map signs ys) refl
    each_prints_back (x ∷ xs) =
        PrintsBack-as (λ (ys : List X). flat_map signs ys) (Alike (x ∷ xs)) (λ (v : (Unit {0} × X) × List X). v.0.1 ∷ v.1) (λ v. refl) (λ v like. cons_same (bare v.0.1) (bare x) (map bare v.1) (map bare xs) like.0.1 like.1)
        (PrintsBack-then (λ rest must. tt) (PrintsBack-then (λ rest must. tt) (gap_prints_back is_gap) (one x)) (each_prints_back xs))

    -- a gap between each two
    pub joined_prints_back : (xs : List X) → PrintsBack Anything (join_by text gap xs) (λ (ys : List X). flat_map signs ys) (Alike xs)
    joined_prints_back [] = empty_prints_back Anything (λ ys. flat_map signs ys) refl
    joined_prints_back (x ∷ xs) =
        PrintsBack-as (λ (ys : List X). flat_map signs ys) (Alike (x ∷ xs)) (λ (v : X × List X). v.0 ∷ v.1) (λ v. refl) (λ v like. cons_same (bare v.0) (bare x) (map bare v.1) (map bare xs) like.0 like.1)
        (PrintsBack-then (λ rest must. tt) (one x) (each_prints_back xs))
