-- What numbers and a map of indices find, with one key more too.
use Rattle.std.proofs.Common.{◌≡◌, ◌≢◌, ◌⊎◌, ℕ, get_or, ◌<◌, true, cond, List, [], ◌∷◌, ◌++◌, length, Some, inl, inr, slice_get, refl, sym, ap, ◌∙◌, subst, arith}
use Rattle.std.specs.BTreeMap.{BTreeMap, get}
use Rattle.std.specs.List.{AllPairs, Contains}
use Rattle.std.specs.Ordering.{is_eq}
use Rattle.std.proofs.lemmas.Bool.{cases_Bool, cases_lt}
use Rattle.std.proofs.lemmas.List.{get_or_append_left, get_or_at, length-append}
use Rattle.std.proofs.lemmas.List.Quantifiers.{all_pairs_push}
use Rattle.std.proofs.lemmas.Option.{get_or_from_slice_get, same_Some, slice_get-get_or, slice_get_within}
use Rattle.list_base.proofs.Membership.{member_at}
use Rattle.bspl_types.specs.declared.value.Value.{Value}
use Rattle.key_table.specs.KeyOrder.{key_cmp}
use Rattle.key_table.specs.inner.KeyIndex.{IsKeyIndex, index_by_number}
use Rattle.key_table.proofs.TieLemmas.{tied_is_one}

-- an item that comes last changes no earlier one
early_item : (keys : List (List Value)) (key q : List Value) (i : ℕ) → i < length keys → slice_get (keys ++ key ∷ []) i ≡ slice_get keys i
early_item keys key q i early =
    slice_get-get_or (keys ++ key ∷ []) i q (omega (arith, early, length-append keys (key ∷ [])))
    ∙ ap Some (get_or_append_left keys (key ∷ []) q i early)
    ∙ sym (slice_get-get_or keys i q early)

-- and has the index after theirs
last_item : (keys : List (List Value)) (key : List Value) → slice_get (keys ++ key ∷ []) (length keys) ≡ Some key
last_item keys key =
    slice_get-get_or (keys ++ key ∷ []) (length keys) key (omega (arith, length-append keys (key ∷ [])))
    ∙ ap Some (get_or_at keys key [] key (length keys) refl)

-- a key at an index of the longer list is that of the shorter one, or the last
early_or_last : (keys : List (List Value)) (key q : List Value) (i : ℕ) → slice_get (keys ++ key ∷ []) i ≡ Some q → (slice_get keys i ≡ Some q) ⊎ ((i ≡ length keys) × (key ≡ q))
early_or_last keys key q i there = elim (cases_lt i (length keys)) [
  | inl early ↦ inl (sym (early_item keys key q i early) ∙ there)
  | inr late ↦
      let is : i ≡ length keys = omega (arith, late, slice_get_within (keys ++ key ∷ []) i q there, length-append keys (key ∷ [])) in
      inr (is, sym (get_or_at keys key [] q i (sym is)) ∙ get_or_from_slice_get (keys ++ key ∷ []) i q q there)
]

-- the keys and one more are distinct, as the one is not among them
distinct_more : (keys : List (List Value)) (key : List Value) → ¬ Contains keys key → AllPairs (λ k l. k ≢ l) keys → AllPairs (λ k l. k ≢ l) (keys ++ key ∷ [])
distinct_more keys key not distinct =
    all_pairs_push (λ k l. k ≢ l) keys key distinct (λ k d within one. not (subst (Contains keys) one (member_at keys k (get_or keys k d) (slice_get-get_or keys k d within))))

-- a key that is found by its number comes last, and the map stays
pub one_more_numbered : (keys : List (List Value)) (key : List Value) (indices : BTreeMap (List Value) ℕ) → ¬ Contains keys key → index_by_number key ≡ Some (length keys) → IsKeyIndex keys indices → IsKeyIndex (keys ++ key ∷ []) indices
one_more_numbered keys key indices not number index = record {
  mapped = λ q i at. let there = index.mapped q i at in early_item keys key q i (slice_get_within keys i q there) ∙ there;
  found = λ q i there. elim (early_or_last keys key q i there) [
    | inl early ↦ index.found q i early
    | inr last ↦ inl (ap index_by_number (sym last.1) ∙ number ∙ ap Some (sym last.0))
  ];
  distinct = distinct_more keys key not index.distinct;
}

-- the key that is added has the last index in the map, and the others keep theirs
pub one_more_indexed : (keys : List (List Value)) (key : List Value) (old new : BTreeMap (List Value) ℕ) → ¬ Contains keys key → IsKeyIndex keys old → ((q : List Value) → get key_cmp new q ≡ cond (is_eq (key_cmp key q)) (Some (length keys)) (get key_cmp old q)) → IsKeyIndex (keys ++ key ∷ []) new
one_more_indexed keys key old new not index updates = record {
  mapped = λ q i at. elim (cases_Bool (is_eq (key_cmp key q))) [
    | inl is_yes ↦
        let one : key ≡ q = (tied_is_one key q).0 is_yes in
        let found : get key_cmp new q ≡ Some (length keys) = rw (updates q, is_yes) refl in
        let is : length keys ≡ i = same_Some (length keys) i (sym found ∙ at) in
        subst (λ n. slice_get (keys ++ key ∷ []) n ≡ Some q) is (last_item keys key ∙ ap Some one)
    | inr is_no ↦
        let kept : get key_cmp new q ≡ get key_cmp old q = rw (updates q, is_no) refl in
        let there = index.mapped q i (sym kept ∙ at) in
        early_item keys key q i (slice_get_within keys i q there) ∙ there
  ];
  found = λ q i there. elim (early_or_last keys key q i there) [
    | inl early ↦ elim (index.found q i early) [
      | inl number ↦ inl number
      | inr at ↦ inr (kept_at q i early at)
    ]
    | inr last ↦
        let tie : is_eq (key_cmp key q) ≡ true = (tied_is_one key q).1 last.1 in
        let found : get key_cmp new q ≡ Some (length keys) = rw (updates q, tie) refl in
        inr (found ∙ ap Some (sym last.0))
  ];
  distinct = distinct_more keys key not index.distinct;
}
  where
    kept_at : (q : List Value) (i : ℕ) → slice_get keys i ≡ Some q → get key_cmp old q ≡ Some i → get key_cmp new q ≡ Some i
    kept_at q i early at = elim (cases_Bool (is_eq (key_cmp key q))) [
      | inl is_yes ↦ absurd (not (subst (Contains keys) (sym ((tied_is_one key q).0 is_yes)) (member_at keys i q early)))
      | inr is_no ↦ let kept : get key_cmp new q ≡ get key_cmp old q = rw (updates q, is_no) refl in kept ∙ at
    ]
