-- A name that no other item has is found at that item's index.
use Rattle.std.proofs.Common.{◌≡◌, ◌≢◌, ℕ, ◌<◌, List, length, get_or, Some, sym, ◌∙◌, ap, arith, ⊎_elim}
use Rattle.std.specs.List.{AllPairs, position, position_or_len}
use Rattle.std.specs.Str.{bytes_eq}
use Rattle.std.proofs.lemmas.Bool.{cases_Bool}
use Rattle.std.proofs.lemmas.Bool.Decides.{nat_tests}
use Rattle.std.proofs.lemmas.List.Sums.{position_or_len_is}
use Rattle.std.proofs.lemmas.Slice.Eq.{bytes_eq-Decides}

-- the index is the first one of that name
pub own_index : {X : Type 0} (name : X → List ℕ) (xs : List X) (k : ℕ) (x : X) → AllPairs (λ y z. name y ≢ name z) xs → k < length xs → x ≡ get_or xs k x → position (λ y. bytes_eq (name y) (name x)) xs ≡ Some k
own_index {X} name xs k x distinct within is_item =
    let here : name x ≡ name (get_or xs k x) = ap name is_item in
    let at : position_or_len (λ (y : X). bytes_eq (name y) (name x)) xs ≡ k =
    position_or_len_is (λ (y : X). bytes_eq (name y) (name x)) xs k x (omega (arith, within))
    (λ j before. ⊎_elim
    (λ same. absurd (distinct j k x before within ((bytes_eq-Decides (name (get_or xs j x)) (name x)).0 same ∙ here)))
    (λ other. other)
    (cases_Bool (bytes_eq (name (get_or xs j x)) (name x))))
    (λ inside. (bytes_eq-Decides (name (get_or xs k x)) (name x)).1 (sym here)) in
    grind (arith, nat_tests)
