-- The keys that a store holds after each of a row was added.
use Rattle.std.proofs.Common.{◌≡◌, ◌≢◌, ◌+◌, ◌≤◌, ◌⊎◌, inl, inr, List, [], ◌∷◌, ◌++◌, length, true, false, refl, sym, ap, ◌∙◌, subst, arith}
use Rattle.std.specs.List.{AllPairs, Contains}
use Rattle.std.proofs.lemmas.Bool.{true≢false}
use Rattle.std.proofs.lemmas.List.{length_push}
use Rattle.std.proofs.lemmas.List.Elements.{Contains-append_left, Contains-push_cases}
use Rattle.list_base.proofs.Membership.{distinct_prefix, not_before}
use Rattle.list_base.proofs.Members.{cons_cases, end_same, here_same, nowhere, there}
use Rattle.bspl_types.specs.declared.value.Value.{Value}
use Rattle.bspl_types.specs.Value.{EqualValuesAreOne, equal_values}
use Rattle.local_store.specs.State.{AddsKey, StoreState}
use Rattle.durable_store.specs.Start.{HoldsKeys}

-- two keys are one, or they are not
same_key : EqualValuesAreOne → (key other : List Value) → (key ≡ other) ⊎ (key ≢ other)
same_key one key other = (elim (equal_values key other) as (λ b. equal_values key other ≡ b → (key ≡ other) ⊎ (key ≢ other)) [
  | true ↦ λ is. inl ((one key other).0 is)
  | false ↦ λ is. inr (λ same. true≢false (sym ((one key other).1 same) ∙ is))
]) refl

-- a key is held, or it is not
held_or_not : EqualValuesAreOne → (keys : List (List Value)) (key : List Value) → Contains keys key ⊎ (¬ Contains keys key)
held_or_not one [] key = inr (nowhere key)
held_or_not one (first ∷ keys) key = elim (same_key one first key) [
  | inl same ↦ inl (here_same first keys key same)
  | inr differs ↦ elim (held_or_not one keys key) [
    | inl held ↦ inl (there first keys key held)
    | inr not_held ↦ inr (λ held. elim (cons_cases first keys key held) [
      | inl same ↦ differs same
      | inr later ↦ not_held later
    ])
  ]
]

-- no key is held of none
pub holds_none : HoldsKeys [] []
holds_none = record { same = λ key. (λ held. held, λ held. held); in_order = λ distinct. refl }

module _ (one : EqualValuesAreOne) (old new : StoreState) (keys : List (List Value)) (key : List Value) (holds : HoldsKeys old.keys keys) (adds : AddsKey old key new) where
  -- the new keys
  pub keys_then : (new ≡ old) × Contains old.keys key ⊎ (new ≡ record old { keys = old.keys ++ key ∷ [] })
  keys_then = elim (held_or_not one old.keys key) [
    | inl held ↦ inl (adds.again held, held)
    | inr fresh ↦ inr (adds.first fresh)
  ]

  held_then : (other : List Value) → Contains new.keys other → Contains (keys ++ key ∷ []) other
  held_then other held = elim keys_then [
    | inl (is, _) ↦ Contains-append_left keys (key ∷ []) other ((holds.same other).0 (subst (λ (s : StoreState). Contains s.keys other) is held))
    | inr is ↦ elim (Contains-push_cases old.keys key other (subst (λ (s : StoreState). Contains s.keys other) is held)) [
      | inl before ↦ Contains-append_left keys (key ∷ []) other ((holds.same other).0 before)
      | inr same ↦ end_same keys key other same
    ]
  ]

  then_held : (other : List Value) → Contains (keys ++ key ∷ []) other → Contains new.keys other
  then_held other named = elim keys_then [
    | inl (is, held) ↦ subst (λ (s : StoreState). Contains s.keys other) (sym is) (elim (Contains-push_cases keys key other named) [
      | inl before ↦ (holds.same other).1 before
      | inr same ↦ subst (Contains old.keys) same held
    ])
    | inr is ↦ subst (λ (s : StoreState). Contains s.keys other) (sym is) (elim (Contains-push_cases keys key other named) [
      | inl before ↦ Contains-append_left old.keys (key ∷ []) other ((holds.same other).1 before)
      | inr same ↦ end_same old.keys key other same
    ])
  ]

  order_then : AllPairs ◌≢◌ (keys ++ key ∷ []) → new.keys ≡ keys ++ key ∷ []
  order_then distinct =
      let before : old.keys ≡ keys = holds.in_order (distinct_prefix keys (key ∷ []) distinct) in
      ap (λ (s : StoreState). s.keys) (adds.first (λ held. not_before keys key [] distinct ((holds.same key).0 held)))
      ∙ ap (λ (ks : List (List Value)). ks ++ key ∷ []) before

  -- one key more
  pub holds_more : HoldsKeys new.keys (keys ++ key ∷ [])
  holds_more = record { same = λ other. (held_then other, then_held other); in_order = order_then }

  -- all else stays
  pub frame_more : (base : StoreState) → old ≡ record base { keys = old.keys } → new ≡ record base { keys = new.keys }
  frame_more base same = elim keys_then [
    | inl (is, _) ↦ is ∙ same ∙ ap (λ (s : StoreState). record base { keys = s.keys }) (sym is)
    | inr is ↦ is ∙ ap (λ (s : StoreState). record s { keys = old.keys ++ key ∷ [] }) same ∙ ap (λ (s : StoreState). record base { keys = s.keys }) (sym is)
  ]

  pub few_more : length new.keys ≤ length old.keys + 1
  few_more = elim keys_then [
    | inl (is, _) ↦ omega (arith, ap (λ (s : StoreState). length s.keys) is)
    | inr is ↦ omega (arith, ap (λ (s : StoreState). length s.keys) is, length_push old.keys key)
  ]
