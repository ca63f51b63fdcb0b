-- The key of an instance is made of the values of its key parameters.
use Rattle.std.proofs.Common.{◌≡◌, ◌≢◌, ℕ, suc, List, [], ◌∷◌, length, map, get_or, slice_get, All, Contains, Some, refl, sym, ap, ◌∙◌, inl, inr, arith}
use Rattle.std.specs.List.{AllPairs, zip}
use Rattle.std.specs.Option.{option_map}
use Rattle.std.proofs.lemmas.Bool.{cond-false, cond-true, eq-eqb, ne_eqb}
use Rattle.std.proofs.lemmas.List.Elements.{All-contains, Contains-get_or}
use Rattle.std.proofs.lemmas.List.Kept.{AllPairs-filter}
use Rattle.std.proofs.lemmas.Option.{same_Some, slice_get-map}
use Rattle.bspl_types.specs.declared.protocol.Carried.{Carried}
use Rattle.bspl_types.specs.declared.value.Value.{Value}
use Rattle.bspl_types.specs.Adornment.{Binds, has_value, valued}
use Rattle.bspl_types.specs.KeyAgrees.{KeyAgrees}
use Rattle.list_base.proofs.Filtered.{kept_member}
use Rattle.list_base.proofs.Members.{cons_cases, nowhere}
use Rattle.list_base.proofs.Membership.{member_at}
use Rattle.list_base.proofs.Partners.{partner_of, zipped_member}
use Rattle.role_journal.specs.inner.Reading.{value_at}

-- no parameter comes twice
abbrev pub AreDistinct : List Carried → Type 0
AreDistinct carried = AllPairs (λ c d. c.param ≢ d.param) carried

-- the parameters after the first are others
first_differs : (c : Carried) (carried : List Carried) (d : Carried) → AreDistinct (c ∷ carried) → Contains carried d → c.param ≢ d.param
first_differs c carried d distinct among same =
    distinct 0 (suc among.0) d (omega arith) (omega (arith, among.1)) (same ∙ ap (λ (e : Carried). e.param) (sym among.2))

-- so are those after it
rest_distinct : (c : Carried) (carried : List Carried) → AreDistinct (c ∷ carried) → AreDistinct carried
rest_distinct c carried distinct = λ i j d before within. distinct (suc i) (suc j) d (omega (arith, before)) (omega (arith, within))

-- the value of a parameter is that of its pair
pub value_found : (carried : List Carried) (values : List Value) (c : Carried) (v : Value) → AreDistinct carried → Contains (zip carried values) (c, v) → value_at c.param (zip carried values) ≡ v
value_found [] values c v distinct among = absurd (nowhere (c, v) among)
value_found (d ∷ carried) [] c v distinct among = absurd (nowhere (c, v) among)
value_found (d ∷ carried) (w ∷ values) c v distinct among =
    elim (cons_cases (d, w) (zip carried values) (c, v) among) [
      | inl is ↦
          let params : d.param ≡ c.param = ap (λ (pair : Carried × Value). pair.0.param) is in
          cond-true _ w _ (eq-eqb d.param c.param params) ∙ ap (λ (pair : Carried × Value). pair.1) is
      | inr later ↦
          let other : d.param ≢ c.param = first_differs d carried c distinct (zipped_member carried values c v later) in
          cond-false _ w _ (ne_eqb d.param c.param other) ∙ value_found carried values c v (rest_distinct d carried distinct) later
    ]

-- a key of the values of its parameters agrees with each pair
pub key_agrees : (keys : List ℕ) (carried : List Carried) (values : List Value) → AreDistinct carried → All (KeyAgrees keys (map (λ p. value_at p (zip (valued carried) values)) keys)) (zip (valued carried) values)
key_agrees keys carried values distinct = λ k d within. record {
  same = λ index at.
      let pairs = zip (valued carried) values in
      let pair = get_or pairs k d in
      let found = value_found (valued carried) values pair.0 pair.1 (AllPairs-filter (λ c e. c.param ≢ e.param) (λ c. has_value c.adornment) carried distinct) (Contains-get_or pairs k d within) in
      slice_get-map (λ p. value_at p pairs) keys index ∙ ap (option_map (λ p. value_at p pairs)) at ∙ ap Some found;
}

-- a list that is at each index what a function makes of another
same_by_index : (f : ℕ → Value) (keys : List ℕ) (key : List Value) → length key ≡ length keys → ((index p : ℕ) → slice_get keys index ≡ Some p → slice_get key index ≡ Some (f p)) → key ≡ map f keys
same_by_index f [] [] long each = refl
same_by_index f [] (v ∷ key) long each = absurd (omega (arith, long))
same_by_index f (p ∷ keys) [] long each = absurd (omega (arith, long))
same_by_index f (p ∷ keys) (v ∷ key) long each =
    let first : v ≡ f p = same_Some v (f p) (each 0 p refl) in
    let rest : key ≡ map f keys = same_by_index f keys key (omega (arith, long)) (λ index q at. each (suc index) q at) in
    cc

-- a parameter that is bound has a pair
bound_pair : (carried : List Carried) (values : List Value) (p : ℕ) → length values ≡ length (valued carried) → Binds carried p → (c : Carried) × (v : Value) × Contains (zip (valued carried) values) (c, v) × (c.param ≡ p)
bound_pair carried values p long binds =
    let c = binds.among.1 in
    let among : Contains carried c = (binds.among.0, binds.among.2, binds.among.3) in
    let pair = partner_of (valued carried) values c long (kept_member (λ d. has_value d.adornment) carried c binds.among.4.1 among) in
    (c, pair.0, pair.1, binds.among.4.0)

-- a key that agrees with each pair is made of the values of its parameters
pub key_is : (keys : List ℕ) (key : List Value) (carried : List Carried) (values : List Value) → length key ≡ length keys → length values ≡ length (valued carried) → AreDistinct carried → All (Binds carried) keys
    → All (KeyAgrees keys key) (zip (valued carried) values) → key ≡ map (λ p. value_at p (zip (valued carried) values)) keys
key_is keys key carried values long each distinct whole agrees =
    same_by_index (λ p. value_at p (zip (valued carried) values)) keys key long (λ index p at. at_index index p at)
  where
    at_index : (index p : ℕ) → slice_get keys index ≡ Some p → slice_get key index ≡ Some (value_at p (zip (valued carried) values))
    at_index index p at =
        let pairs = zip (valued carried) values in
        let pair = bound_pair carried values p each (All-contains (Binds carried) keys p whole (member_at keys index p at)) in
        let found = value_found (valued carried) values pair.0 pair.1 (AllPairs-filter (λ c e. c.param ≢ e.param) (λ c. has_value c.adornment) carried distinct) pair.2 in
        let agree = (All-contains (KeyAgrees keys key) pairs (pair.0, pair.1) agrees pair.2).same index (at ∙ ap Some (sym pair.3)) in
        agree ∙ ap Some (sym found ∙ ap (λ (q : ℕ). value_at q pairs) pair.3)
