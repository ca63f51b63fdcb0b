-- Looking up by name.
use Rattle.std.proofs.Common.{◌≡◌, ◌≢◌, ℕ, ◌<◌, List, length, map, get_or, None, Some, inl, inr, sym, ◌∙◌, arith}
use Rattle.std.specs.List.{AllPairs, Contains, position}
use Rattle.std.specs.Str.{bytes_eq}
use Rattle.std.proofs.lemmas.Bool.{cases_order}
use Rattle.std.proofs.lemmas.List.{get_or-map, length-map}
use Rattle.std.proofs.lemmas.List.Quantifiers.{position-Some}
use Rattle.std.proofs.lemmas.Option.{none-some}
use Rattle.std.proofs.lemmas.Slice.Eq.{bytes_eq-Decides}
use Rattle.list_base.proofs.FirstIndex.{named_index}

-- the item that was found has the name
pub found : {X : Type 0} (name : X → List ℕ) (items : List X) (wanted : List ℕ) (index : ℕ) (d : X) → Some index ≡ position (λ x. bytes_eq (name x) wanted) items → (index < length items) × (name (get_or items index d) ≡ wanted)
found name items wanted index d is =
    let at = position-Some (λ x. bytes_eq (name x) wanted) items index d (sym is) in
    (at.0, (bytes_eq-Decides (name (get_or items index d)) wanted).0 at.1)

-- if none was found, no item has the name
pub none_found : {X : Type 0} (name : X → List ℕ) (items : List X) (wanted : List ℕ) (index : ℕ) (d : X) → None ≡ position (λ x. bytes_eq (name x) wanted) items → index < length items → name (get_or items index d) ≢ wanted
none_found name items wanted index d none known is =
    let listed : Contains (map name items) wanted = (index, omega (arith, known, length-map items name), get_or-map name items index d wanted known ∙ is) in
    let at = named_index name items wanted listed in
    none-some at.0 (none ∙ at.2)

-- items of one name are one
pub one_named : {X : Type 0} (name : X → List ℕ) (items : List X) (wanted : List ℕ) (i j : ℕ) (d : X) → AllPairs (λ x y. name x ≢ name y) items → i < length items → name (get_or items i d) ≡ wanted → j < length items → name (get_or items j d) ≡ wanted → i ≡ j
one_named name items wanted i j d distinct i_known i_named j_known j_named =
    elim (cases_order i j) [
      | inl is ↦ is
      | inr (inl less) ↦ absurd (distinct i j d less j_known (i_named ∙ sym j_named))
      | inr (inr more) ↦ absurd (distinct j i d more i_known (j_named ∙ sym i_named))
    ]
