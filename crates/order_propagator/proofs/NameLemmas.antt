-- More names, and what they leave of those before.
use Rattle.std.proofs.Common.{◌≡◌, ℕ, zero, suc, ◌+◌, ◌-◌, ◌<◌, ◌≤◌, Option, Some, List, [], ◌∷◌, ◌++◌, ◌⊎◌, inl, inr, length, get_or, slice_get, sym, ap, ◌∙◌, subst, arith, All, length-append}
use Rattle.std.proofs.lemmas.Bool.{cases_lt}
use Rattle.std.proofs.lemmas.List.{get_or_append_left, get_or-append-add}
use Rattle.std.proofs.lemmas.List.Elements.{All-contains, All-push}
use Rattle.std.proofs.lemmas.Option.{get_or_from_slice_get, slice_get-get_or, slice_get_within}
use Rattle.list_base.proofs.Membership.{member_at}
use Rattle.clause_core.specs.declared.literal.Lit.{Lit}
use Rattle.clause_core.specs.Numbering.{HasNumber, live, numbered}
use Rattle.order_axioms.specs.declared.order.Order.{Order}
use Rattle.order_axioms.specs.Order.{order_list}
use Rattle.order_propagator.specs.inner.Names.{HasName, AreNamed, ArePlaces, name_of}

-- a name is kept by more names
pub HasName-more : (names more : List ℕ) (number name : ℕ) → HasName names number name → HasName (names ++ more) number name
HasName-more names more number name has =
    let within = slice_get_within names (number - 1) name has.there in
    record {
      from_one = has.from_one;
      there = slice_get-get_or (names ++ more) (number - 1) 0 (omega (arith, within, length-append names more))
          ∙ ap Some (get_or_append_left names more 0 (number - 1) within ∙ get_or_from_slice_get names (number - 1) name 0 has.there);
    }

-- a name was there, or is one of the new ones
pub HasName-cases : (names more : List ℕ) (number name : ℕ) → HasName (names ++ more) number name → HasName names number name ⊎ ((length names < number) × (slice_get more (number - 1 - length names) ≡ Some name))
HasName-cases names more number name has = elim (cases_lt (number - 1) (length names)) [
  | inl within ↦ inl (record {
    from_one = has.from_one;
    there = slice_get-get_or names (number - 1) 0 within ∙ ap Some (sym (get_or_append_left names more 0 (number - 1) within) ∙ get_or_from_slice_get (names ++ more) (number - 1) name 0 has.there);
  })
  | inr past ↦
      let k = number - 1 - length names in
      let back : length names + k ≡ number - 1 = omega (arith, past) in
      let inside : k < length more = omega (arith, past, back, slice_get_within (names ++ more) (number - 1) name has.there, length-append names more) in
      inr (
        omega (arith, past, has.from_one),
        slice_get-get_or more k 0 inside ∙ ap Some (sym (get_or-append-add names more k 0) ∙ ap (λ i. get_or (names ++ more) i 0) back ∙ get_or_from_slice_get (names ++ more) (number - 1) name 0 has.there),
      )
]

-- places stay if only clauses of the order are named
pub ArePlaces-more : (order : Order) (names made places : List ℕ) → All (λ name. name ≤ length (order_list order)) made → ArePlaces order names places → ArePlaces order (names ++ made) places
ArePlaces-more order names made places of_order are_places = record {
  placed = λ index number got. HasName-more names made number (length (order_list order) + index + 1) (are_places.placed index number got);
  found = λ number name has above. elim (HasName-cases names made number name has) [
    | inl before ↦ are_places.found number name before above
    | inr after ↦ absurd (
        let few : name ≤ length (order_list order) = All-contains (λ n. n ≤ length (order_list order)) made name of_order
        (member_at made (number - 1 - length names) name after.1) in
        omega (arith, few, above))
  ];
}

-- one clause more has a name
pub AreNamed-push : (order : Order) (clauses new : List (Option (List Lit))) (names : List ℕ) (clause : List Lit) (name : ℕ) → AreNamed order clauses names → length new ≡ length clauses + 1 → live new (length clauses + 1) ≡ Some clause → ((n : ℕ) → n ≤ length clauses → live new n ≡ live clauses n) → 0 < name → (name ≤ length (order_list order) → HasNumber (numbered (order_list order)) name clause) → AreNamed order new (names ++ name ∷ [])
AreNamed-push order clauses new names clause name named counted last others from_one of_order = record {
  all = omega (arith, length-append names (name ∷ []), named.all, counted);
  from_one = All-push (λ n. 0 < n) names name named.from_one from_one;
  made = λ number other has few. elim (HasName-cases names (name ∷ []) number other has) [
    | inl before ↦
        others number (omega (arith, before.from_one, named.all, slice_get_within names (number - 1) other before.there)) ∙ named.made number other before few
    | inr after ↦
        let at_end : number ≡ length clauses + 1 = omega (arith, after.0, named.all, slice_get_within (name ∷ []) (number - 1 - length names) other after.1) in
        let same : name ≡ other = only_one (number - 1 - length names) other after.1 in
        ap (live new) at_end ∙ last ∙ sym (of_order (subst (λ n. n ≤ length (order_list order)) (sym same) few)).there ∙ ap (numbered (order_list order)) same
  ];
}
  where
    only_one : (k other : ℕ) → slice_get (name ∷ []) k ≡ Some other → name ≡ other
    only_one zero other got = let same : name ≡ other = cc in same
    only_one (suc k) other got = cc

-- a reason keeps its name when more come
pub name_of-more : (names more : List ℕ) (number : ℕ) → 0 < number → number ≤ length names → name_of (names ++ more) number ≡ name_of names number
name_of-more names more number from_one within = get_or_append_left names more 0 (number - 1) (omega (arith, from_one, within))
