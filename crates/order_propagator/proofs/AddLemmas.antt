-- One clause more, and what contracts see of it.
use Rattle.std.proofs.Common.{◌≡◌, ◌≢◌, ℕ, ◌+◌, ◌-◌, ◌≤◌, Bool, false, Option, Some, None, option_map, IfSome, IsNone, List, [], ◌∷◌, ◌++◌, ◌⊎◌, ◌↔◌, inl, inr, length, map, slice_get, take, sym, ap, ap₂, refl, ◌∙◌, subst, arith, append-nil, length-append}
use Rattle.std.proofs.lemmas.Bool.{cases_lt}
use Rattle.std.proofs.lemmas.List.{get_or_append_left, get_or_past, get_or_push}
use Rattle.std.proofs.lemmas.Option.{get_or_from_slice_get, slice_get-get_or, slice_get_within}
use Rattle.clause_core.specs.declared.literal.Lit.{Lit}
use Rattle.clause_core.specs.Numbering.{live}
use Rattle.order_axioms.specs.declared.order.Order.{Order}
use Rattle.order_axioms.specs.Order.{order_list}
use Rattle.sat_trail.specs.declared.entry.Entry.{Entry}
use Rattle.sat_trail.specs.Entry.{entry_of, values_of}
use Rattle.sat_trail.specs.State.{State, numbering_of, last_number}
use Rattle.sat_trail.specs.Trail.{Adds, HasTwoOpen, IsOpen}
use Rattle.order_propagator.specs.declared.named_trail.NamedTrail.{NamedTrail}
use Rattle.order_propagator.specs.inner.Closed.{IsClosed}
use Rattle.order_propagator.specs.inner.Closing.{IsClosedUpTo}
use Rattle.order_propagator.specs.inner.Making.{AddsNamed, CanMake}
use Rattle.order_propagator.specs.inner.Names.{ArePlaces, HasName}
use Rattle.order_propagator.specs.inner.Whole.{renamed, whole_clauses, whole_state}
use Rattle.order_propagator.proofs.EntryLemmas.{entry_of-renamed}
use Rattle.order_propagator.proofs.GrowthLemmas.{state}
use Rattle.order_propagator.proofs.KeepLemmas.{closed-more}
use Rattle.order_propagator.proofs.NameLemmas.{HasName-cases, HasName-more}
use Rattle.order_propagator.proofs.NumberLemmas.{live-some, place_within, whole-above, whole-length, whole-order, whole-place}
use Rattle.order_propagator.proofs.ViewLemmas.{entries-more}

-- a literal that is open under other names of reasons is open
open-unnamed : (names : List ℕ) (es : List Entry) (level : ℕ) (l : Lit) → IsOpen (map (renamed names) es) level l → IsOpen es level l
open-unnamed names es level l is_open = unnamed (entry_of es l.var) (subst (λ o. IfSome o (λ (e : Entry). e.level ≡ level)) (entry_of-renamed names es l.var) is_open)
  where
    unnamed : (o : Option Entry) → IfSome (option_map (renamed names) o) (λ (e : Entry). e.level ≡ level) → IfSome o (λ (e : Entry). e.level ≡ level)
    unnamed None none = none
    unnamed (Some e) same = same

-- so are two
pub two-unnamed : (names : List ℕ) (es : List Entry) (level : ℕ) (c : List Lit) → (level ≡ 0) ⊎ HasTwoOpen (map (renamed names) es) level c → (level ≡ 0) ⊎ HasTwoOpen es level c
two-unnamed names es level c opens = elim opens [
  | inl low ↦ inl low
  | inr two ↦ inr (record {
    one = two.one;
    other = two.other;
    differ = two.differ;
    one_among = two.one_among;
    other_among = two.other_among;
    one_open = open-unnamed names es level two.one two.one_open;
    other_open = open-unnamed names es level two.other two.other_open;
  })
]

-- an item of a list keeps its index
at-left : (xs more : List ℕ) (i x : ℕ) → slice_get xs i ≡ Some x → slice_get (xs ++ more) i ≡ Some x
at-left xs more i x got =
    let within = slice_get_within xs i x got in
    slice_get-get_or (xs ++ more) i 0 (omega (arith, within, length-append xs more)) ∙ ap Some (get_or_append_left xs more 0 i within ∙ get_or_from_slice_get xs i x 0 got)

-- the item at the end
at-end : (xs : List ℕ) (x : ℕ) → slice_get (xs ++ x ∷ []) (length xs) ≡ Some x
at-end xs x = slice_get-get_or (xs ++ x ∷ []) (length xs) 0 (omega (arith, length-append xs (x ∷ []))) ∙ ap Some (get_or_push xs x 0 (length xs) refl)

-- an item was there, or is the last
at-cases : (xs : List ℕ) (x i y : ℕ) → slice_get (xs ++ x ∷ []) i ≡ Some y → (slice_get xs i ≡ Some y) ⊎ ((i ≡ length xs) × (x ≡ y))
at-cases xs x i y got = elim (cases_lt i (length xs)) [
  | inl before ↦ inl (slice_get-get_or xs i 0 before ∙ ap Some (sym (get_or_append_left xs (x ∷ []) 0 i before) ∙ get_or_from_slice_get (xs ++ x ∷ []) i y 0 got))
  | inr after ↦
      let last : length xs ≡ i = omega (arith, after, slice_get_within (xs ++ x ∷ []) i y got, length-append xs (x ∷ [])) in
      inr (sym last, sym (get_or_push xs x 0 i last) ∙ get_or_from_slice_get (xs ++ x ∷ []) i y 0 got)
]

-- the name of the last clause
last-name : (names : List ℕ) (name number : ℕ) → number ≡ length names + 1 → HasName (names ++ name ∷ []) number name
last-name names name number is = record {
  from_one = omega (arith, is);
  there = subst (λ i. slice_get (names ++ name ∷ []) i ≡ Some name) (let back : length names ≡ number - 1 = omega (arith, is) in back) (at-end names name);
}

-- the clause that was added has the next place
pub ArePlaces-push : (order : Order) (names places : List ℕ) (name number : ℕ) → ArePlaces order names places → name ≡ length (order_list order) + length places + 1 → number ≡ length names + 1 → ArePlaces order (names ++ name ∷ []) (places ++ number ∷ [])
ArePlaces-push order names places name number are_places name_is number_is = record {
  placed = λ index other got. elim (at-cases places number index other got) [
    | inl before ↦ HasName-more names (name ∷ []) other (length (order_list order) + index + 1) (are_places.placed index other before)
    | inr last ↦
        subst (λ n. HasName (names ++ name ∷ []) n (length (order_list order) + index + 1)) last.1
        (subst (λ n. HasName (names ++ name ∷ []) number n) (let same : name ≡ length (order_list order) + index + 1 = omega (arith, name_is, last.0) in same) (last-name names name number number_is))
  ];
  found = λ other last has above. elim (HasName-cases names (name ∷ []) other last has) [
    | inl before ↦ at-left places (number ∷ []) (last - length (order_list order) - 1) other (are_places.found other last before above)
    | inr after ↦
        let zero_index : other - 1 - length names ≡ 0 = omega (arith, slice_get_within (name ∷ []) (other - 1 - length names) last after.1) in
        let same : name ≡ last = let got : Some name ≡ Some last = subst (λ i. slice_get (name ∷ []) i ≡ Some last) zero_index after.1 in cc in
        let other_is : number ≡ other = omega (arith, zero_index, after.0, number_is) in
        subst (λ n. slice_get (places ++ number ∷ []) (last - length (order_list order) - 1) ≡ Some n) other_is
        (subst (λ i. slice_get (places ++ number ∷ []) i ≡ Some number) (let index : length places ≡ last - length (order_list order) - 1 = omega (arith, same, name_is) in index) (at-end places number))
  ];
}

-- the other numbers of the whole formula keep their clauses
whole-others : (order : Order) (a b : NamedTrail) (places : List ℕ) (number n : ℕ) → CanMake order a → ArePlaces order a.names places → ((k : ℕ) → k ≤ last_number a.trail → numbering_of b.trail k ≡ numbering_of a.trail k) → n ≢ length (order_list order) + length places + 1 → live (whole_clauses order b.trail.clauses (places ++ number ∷ [])) n ≡ live (whole_clauses order a.trail.clauses places) n
whole-others order a b places number n can are_places kept other = elim (cases_lt (length (order_list order)) n) [
  | inr few ↦ whole-order order b.trail.clauses (places ++ number ∷ []) n few ∙ sym (whole-order order a.trail.clauses places n few)
  | inl above ↦ elim (cases_lt (length (order_list order) + length places) n) [
    | inl past ↦
        let some : n ≢ 0 = λ none. omega (arith, none, above) in
        live-some (whole_clauses order b.trail.clauses (places ++ number ∷ [])) n some
        ∙ get_or_past (whole_clauses order b.trail.clauses (places ++ number ∷ [])) (n - 1) None (omega (arith, past, other, whole-length order b.trail.clauses (places ++ number ∷ []), length-append places (number ∷ [])))
        ∙ sym (live-some (whole_clauses order a.trail.clauses places) n some ∙ get_or_past (whole_clauses order a.trail.clauses places) (n - 1) None (omega (arith, past, other, whole-length order a.trail.clauses places)))
    | inr within ↦
        let placed = whole-above order a.trail.clauses places n above within in
        ap (live (whole_clauses order b.trail.clauses (places ++ number ∷ []))) placed.number_is
        ∙ whole-place order b.trail.clauses (places ++ number ∷ []) placed.index placed.number (at-left places (number ∷ []) placed.index placed.number placed.got)
        ∙ kept placed.number (place_within order a.trail.clauses a.names places placed.index placed.number can.named are_places placed.got).1
        ∙ sym placed.same
  ]
]

-- what contracts see of an addition
pub adds-whole : (order : Order) (a b : NamedTrail) (places : List ℕ) (clause : List Lit) (name number : ℕ) (ready : Bool) → CanMake order a → ArePlaces order a.names places → AddsNamed a clause name b → name ≡ length (order_list order) + length places + 1 → number ≡ last_number a.trail + 1 → Adds (whole_state order a places ready) clause (whole_state order b (places ++ number ∷ []) false) name
adds-whole order a b places clause name number ready can are_places adds name_is number_is = record {
  next = omega (arith, name_is, whole-length order a.trail.clauses places);
  last = omega (arith, name_is, whole-length order b.trail.clauses (places ++ number ∷ []), length-append places (number ∷ []));
  has_number = record {
    there = ap (live (whole_clauses order b.trail.clauses (places ++ number ∷ []))) name_is
        ∙ whole-place order b.trail.clauses (places ++ number ∷ []) (length places) number (at-end places number)
        ∙ ap (live b.trail.clauses) number_is ∙ adds.adds.has_number.there;
  };
  others = λ n other. whole-others order a b places number n can are_places (λ k within. adds.adds.others k (λ same. omega (arith, same, within))) (λ same. other (same ∙ sym name_is));
  rest = ap (λ (s : State). state s.vars (whole_clauses order b.trail.clauses (places ++ number ∷ [])) (map (renamed b.names) s.entries) s.level false) adds.adds.rest
      ∙ ap (λ es. state a.trail.vars (whole_clauses order b.trail.clauses (places ++ number ∷ [])) es a.trail.level false)
      (ap (λ ns. map (renamed ns) a.trail.entries) adds.names ∙ entries-more order a (name ∷ []) can);
}

-- an order stays closed when a clause comes
pub closed-adds : (order : Order) (a b : NamedTrail) (clause : List Lit) (name head : ℕ) → AddsNamed a clause name b → IsClosedUpTo order a head → IsClosedUpTo order b head
closed-adds order a b clause name head adds closed = record {
  within = subst (λ es. head ≤ length es) (sym entries) closed.within;
  closed = subst (λ es. IsClosed order b.names (values_of (take head es)) (values_of es)) (sym entries)
      (subst (λ ns. IsClosed order ns (values_of (take head a.trail.entries)) (values_of a.trail.entries)) (sym adds.names)
      (subst (λ es. IsClosed order (a.names ++ name ∷ []) (values_of (take head es)) (values_of es)) (append-nil a.trail.entries)
      (closed-more order a.names (name ∷ []) a.trail.entries [] head closed.within closed.closed)));
}
  where
    entries : b.trail.entries ≡ a.trail.entries
    entries = ap (λ (s : State). s.entries) adds.adds.rest

-- lists with one item more are equal if they are without it
without-last : (xs ys : List ℕ) (m n : ℕ) → xs ++ m ∷ [] ≡ ys ++ n ∷ [] → xs ≡ ys
without-last [] [] m n same = refl
without-last [] (y ∷ ys) m n same = absurd (omega (arith, ap length same, length-append ys (n ∷ [])))
without-last (x ∷ xs) [] m n same = absurd (omega (arith, ap length same, length-append xs (m ∷ [])))
without-last (x ∷ xs) (y ∷ ys) m n same =
    let both : x ∷ (xs ++ m ∷ []) ≡ y ∷ (ys ++ n ∷ []) = same in
    let first : x ≡ y = cc in
    let rest : xs ++ m ∷ [] ≡ ys ++ n ∷ [] = cc in
    ap₂ (λ z zs. z ∷ zs) first (without-last xs ys m n rest)

-- taking out the item that was put at the end leaves the list
pub popped : (xs old new : List ℕ) (n : ℕ) (r : Option ℕ) → old ≡ xs ++ n ∷ [] → IfSome r (λ x. old ≡ new ++ x ∷ []) → (IsNone r ↔ (old ≡ [])) → new ≡ xs
popped xs old new n None pushed last empty = absurd (omega (arith, ap length (empty.0 refl), ap length pushed, length-append xs (n ∷ [])))
popped xs old new n (Some x) pushed last empty = sym (without-last xs new n x (sym pushed ∙ last))
