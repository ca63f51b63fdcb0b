-- Ascending lists of literals: their ends, and that their members determine them.
use Rattle.std.proofs.Common.{◌≡◌, suc, ◌<◌, ◌≤◌, inl, inr, List, [], ◌∷◌, ◌++◌, get_or, Contains, refl, sym, ◌∙◌, ap₂, arith}
use Rattle.std.proofs.lemmas.List.Elements.{Contains-get_or}
use Rattle.std.specs.List.Sorted.{IsPermutation}
use Rattle.std.proofs.lemmas.List.Sorted.{Contains-permutation, IsPermutation-sym}
use Rattle.std.proofs.lemmas.List.Quantifiers.{all_pairs_push}
use Rattle.clause_core.specs.declared.literal.Lit.{Lit}
use Rattle.clause_core.specs.Literal.{rank}
use Rattle.clause_core.specs.Clause.{IsAscending, HasExactly}
use Rattle.list_base.proofs.Members.{here, there, nowhere, cons_cases}
use Rattle.clause_core.proofs.LiteralLemmas.{same_rank}

pub ascending_tail : (x : Lit) (xs : List Lit) → IsAscending (x ∷ xs) → IsAscending xs
ascending_tail x xs up =
    record { ordered = λ i j d before within. up.ordered (suc i) (suc j) d (omega arith) (omega arith) }

-- the first literal comes before the others
pub first_below : (x : Lit) (xs : List Lit) → IsAscending (x ∷ xs) → (m : Lit) → Contains xs m → rank x < rank m
first_below x xs up m (k, within, is) = rw is at (up.ordered 0 (suc k) m (omega arith) (omega arith))

pub first_least : (x : Lit) (xs : List Lit) → IsAscending (x ∷ xs) → (m : Lit) → Contains (x ∷ xs) m → rank x ≤ rank m
first_least x xs up m among =
    elim (cons_cases x xs m among) [
      | inl same ↦ rw same (omega arith)
      | inr rest ↦ omega (arith, first_below x xs up m rest)
    ]

pub ascending_nil : IsAscending []
ascending_nil = record { ordered = λ i j d before within. absurd (omega arith) }

pub ascending_push : (xs : List Lit) (y : Lit) → IsAscending xs → ((l : Lit) → Contains xs l → rank l < rank y) → IsAscending (xs ++ y ∷ [])
ascending_push xs y up below =
    record {
      ordered =
          all_pairs_push (λ l m. rank l < rank m) xs y up.ordered (λ k d within. below (get_or xs k d) (Contains-get_or xs k d within));
    }

-- what is said of two lists with equal first items holds of the rests
rest_among : (x y : Lit) (xs ys : List Lit) → x ≡ y → IsAscending (x ∷ xs) → ((l : Lit) → Contains (x ∷ xs) l → Contains (y ∷ ys) l) → (l : Lit) → Contains xs l → Contains ys l
rest_among x y xs ys first up all l among =
    elim (cons_cases y ys l (all l (there x xs l among))) [
      | inl same ↦ absurd (let below : rank l < rank l = rw (first ∙ same) at (first_below x xs up l among) in omega arith)
      | inr rest ↦ rest
    ]

-- two ascending lists with the same literals are equal
pub equal_clauses : (c d : List Lit) → IsAscending c → IsAscending d → HasExactly c d → c ≡ d
equal_clauses [] [] up_c up_d same = refl
equal_clauses [] (y ∷ ys) up_c up_d same = absurd (nowhere y ((same y).1 (here y ys)))
equal_clauses (x ∷ xs) [] up_c up_d same = absurd (nowhere x ((same x).0 (here x xs)))
equal_clauses (x ∷ xs) (y ∷ ys) up_c up_d same =
    let least_x = first_least x xs up_c y ((same y).1 (here y ys)) in
    let least_y = first_least y ys up_d x ((same x).0 (here x xs)) in
    let first : x ≡ y = same_rank x y (omega arith) in
    let rests =
    equal_clauses xs ys (ascending_tail x xs up_c) (ascending_tail y ys up_d) (λ l. (rest_among x y xs ys first up_c (λ m. (same m).0) l, rest_among y x ys xs (sym first) up_d (λ m. (same m).1) l)) in
    ap₂ (λ z zs. z ∷ zs) first rests

-- a clause of the literals in another order is a clause of the literals
pub moved_exactly : (lits moved clause : List Lit) → IsPermutation lits moved → HasExactly clause moved → HasExactly clause lits
moved_exactly lits moved clause is same l =
    (λ among. Contains-permutation moved lits l (IsPermutation-sym lits moved is) ((same l).0 among), λ among. (same l).1 (Contains-permutation lits moved l is among))
