-- A new trail over a whole formula.
use Rattle.std.proofs.Common.{◌≡◌, ℕ, zero, suc, ◌+◌, ◌-◌, ◌^◌, ◌<◌, ◌≤◌, false, Option, Some, List, [], ◌∷◌, ◌++◌, inl, inr, length, get_or, map, slice_get, sym, ap, refl, ◌∙◌, subst, arith, All, length-append}
use Rattle.std.specs.List.{range_with_len}
use Rattle.std.proofs.lemmas.Bool.{cases_eq, cases_lt, ne_eqb}
use Rattle.std.proofs.lemmas.List.{get_or_append_left, get_or-append-add}
use Rattle.std.proofs.lemmas.List.Elements.{All-from_get_or}
use Rattle.std.proofs.lemmas.List.FromFn.{get_or-range_with_len, length-range_with_len}
use Rattle.std.proofs.lemmas.Option.{slice_get-get_or, slice_get_past, slice_get_within}
use Rattle.clause_core.specs.declared.formula.Formula.{Formula}
use Rattle.clause_core.specs.declared.literal.Lit.{Lit}
use Rattle.clause_core.specs.Clause.{VariablesExist}
use Rattle.clause_core.specs.Numbering.{live, numbered}
use Rattle.order_axioms.specs.declared.order.Order.{Order}
use Rattle.order_axioms.specs.Order.{order_list}
use Rattle.sat_trail.specs.Entry.{values_of}
use Rattle.sat_trail.specs.State.{State}
use Rattle.sat_trail.specs.Trail.{IsStart, IsTrail}
use Rattle.order_propagator.specs.Whole.{IsWhole}
use Rattle.order_propagator.specs.inner.Closing.{IsKept}
use Rattle.order_propagator.specs.inner.Names.{AreNamed, ArePlaces}
use Rattle.order_propagator.specs.inner.Whole.{renamed, whole_clauses, whole_state}
use Rattle.order_propagator.proofs.KeepLemmas.{closed-none}
use Rattle.order_propagator.proofs.NumberLemmas.{has-none, whole-above, whole-length, whole-order}

-- the number at an index of a range
range-at : (first count index : ℕ) → index < count → slice_get (range_with_len first count) index ≡ Some (first + index)
range-at first count index within =
    slice_get-get_or (range_with_len first count) index 0 (omega (arith, within, length-range_with_len first count)) ∙ ap Some (get_or-range_with_len first count index 0 within)

-- what stands at an index of a range
range-item : (first count index item : ℕ) → slice_get (range_with_len first count) index ≡ Some item → (index < count) × (item ≡ first + index)
range-item first count index item got =
    let within : index < count = omega (arith, slice_get_within (range_with_len first count) index item got, length-range_with_len first count) in
    (within, (let same : Some item ≡ Some (first + index) = sym got ∙ range-at first count index within in let is : item ≡ first + index = cc in is))

-- one number more of a range
range-more : (first count : ℕ) → range_with_len first (count + 1) ≡ range_with_len first count ++ (first + count) ∷ []
range-more first zero = ap (λ n. n ∷ []) (let same : first ≡ first + 0 = omega arith in same)
range-more first (suc count) =
    let step : suc count + 1 ≡ suc (count + 1) = omega arith in
    let sum : first + 1 + count ≡ first + suc count = omega arith in
    ap (range_with_len first) step ∙ ap (λ ns. first ∷ ns) (range-more (first + 1) count ∙ ap (λ n. range_with_len (first + 1) count ++ n ∷ []) sum)

-- the numbers after the first so many, with one more
pub range-next : (first index : ℕ) (numbers new : List ℕ) → numbers ≡ range_with_len (first + 1) index → new ≡ numbers ++ (first + index + 1) ∷ [] → new ≡ range_with_len (first + 1) (index + 1)
range-next first index numbers new are grows =
    grows ∙ ap (λ ns. ns ++ (first + index + 1) ∷ []) are ∙ ap (λ n. range_with_len (first + 1) index ++ n ∷ []) (let sum : first + index + 1 ≡ first + 1 + index = omega arith in sum)
    ∙ sym (range-more (first + 1) index)

-- the formula's clauses have the names after those of the order
named-new : (order : Order) (clauses : List (Option (List Lit))) (count : ℕ) → length clauses ≡ count → AreNamed order clauses (range_with_len (length (order_list order) + 1) count)
named-new order clauses count counted = record {
  all = length-range_with_len (length (order_list order) + 1) count ∙ sym counted;
  from_one = All-from_get_or (λ name. 0 < name) (range_with_len (length (order_list order) + 1) count) 0
      (λ i within. let is : get_or (range_with_len (length (order_list order) + 1) count) i 0 ≡ length (order_list order) + 1 + i = get_or-range_with_len (length (order_list order) + 1) count i 0 (omega (arith, within, length-range_with_len (length (order_list order) + 1) count)) in omega (arith, is));
  made = λ number name has few. absurd (omega (arith, few, (range-item (length (order_list order) + 1) count (number - 1) name has.there).1));
}

-- and they are at their places
places-new : (order : Order) (count : ℕ) → ArePlaces order (range_with_len (length (order_list order) + 1) count) (range_with_len 1 count)
places-new order count = record {
  placed = λ index number got.
      let item = range-item 1 count index number got in
      record {
        from_one = omega (arith, item.1);
        there = subst (λ i. slice_get (range_with_len (length (order_list order) + 1) count) i ≡ Some (length (order_list order) + index + 1)) (let same : index ≡ number - 1 = omega (arith, item.1) in same)
            (range-at (length (order_list order) + 1) count index item.0 ∙ ap Some (let sum : length (order_list order) + 1 + index ≡ length (order_list order) + index + 1 = omega arith in sum));
      };
  found = λ number name has above.
      let item = range-item (length (order_list order) + 1) count (number - 1) name has.there in
      subst (λ i. slice_get (range_with_len 1 count) i ≡ Some number) (let same : number - 1 ≡ name - length (order_list order) - 1 = omega (arith, item.1) in same)
      (range-at 1 count (number - 1) item.0 ∙ ap Some (let sum : 1 + (number - 1) ≡ number = omega (arith, has.from_one) in sum));
}

-- what a new order trail keeps of its parts
pub IsKept-new : (order : Order) (f : Formula) (t : State) (names places : List ℕ) → IsStart f t → IsTrail t → All (VariablesExist f.vars) (order_list order) → names ≡ range_with_len (length (order_list order) + 1) (length f.clauses) → places ≡ range_with_len 1 (length f.clauses) → length (order_list order) + length f.clauses < 2 ^ 32 → IsKept order (record { trail = t; names = names }) places 0 false
IsKept-new order f t names places start sound exist names_are places_are few = rw (names_are, places_are) (record {
  can_make = record {
    trail = sound;
    exist = subst (λ v. All (VariablesExist v) (order_list order)) (sym start.vars) exist;
    named = named-new order t.clauses (length f.clauses) start.last;
    below = λ level lower. absurd (omega (arith, lower, start.level));
  };
  placed = places-new order (length f.clauses);
  few = omega (arith, few, length-range_with_len 1 (length f.clauses));
  closed = record {
    within = omega arith;
    closed = closed-none order (range_with_len (length (order_list order) + 1) (length f.clauses)) (values_of t.entries);
  };
  rest = λ impossible. cc;
})

-- an item of two lists
item-left : (xs ys : List (List Lit)) (k : ℕ) → k < length xs → slice_get (xs ++ ys) k ≡ slice_get xs k
item-left xs ys k within =
    slice_get-get_or (xs ++ ys) k [] (omega (arith, within, length-append xs ys)) ∙ ap Some (get_or_append_left xs ys [] k within) ∙ sym (slice_get-get_or xs k [] within)

item-right : (xs ys : List (List Lit)) (k : ℕ) → slice_get (xs ++ ys) (length xs + k) ≡ slice_get ys k
item-right xs ys k = elim (cases_lt k (length ys)) [
  | inl within ↦ slice_get-get_or (xs ++ ys) (length xs + k) [] (omega (arith, within, length-append xs ys)) ∙ ap Some (get_or-append-add xs ys k []) ∙ sym (slice_get-get_or ys k [] within)
  | inr past ↦ slice_get_past (xs ++ ys) (length xs + k) (omega (arith, past, length-append xs ys)) ∙ sym (slice_get_past ys k past)
]

-- the whole formula has the order's clauses and then those of the formula
numbers-whole : (order : Order) (f : Formula) (t : State) (n : ℕ) → IsStart f t → live (whole_clauses order t.clauses (range_with_len 1 (length f.clauses))) n ≡ numbered (order_list order ++ f.clauses) n
numbers-whole order f t n start = elim (cases_eq n 0) [
  | inl is ↦ ap (live (whole_clauses order t.clauses (range_with_len 1 (length f.clauses)))) is ∙ ap (numbered (order_list order ++ f.clauses)) (sym is)
  | inr some ↦ elim (cases_lt (length (order_list order)) n) [
    | inr few ↦ whole-order order t.clauses (range_with_len 1 (length f.clauses)) n few
        ∙ at_number (order_list order) n some ∙ sym (item-left (order_list order) f.clauses (n - 1) (omega (arith, some, few))) ∙ sym (at_number (order_list order ++ f.clauses) n some)
    | inl above ↦ elim (cases_lt (length (order_list order) + length f.clauses) n) [
      | inr within ↦ stored above within
      | inl past ↦ has-none order t.clauses (range_with_len 1 (length f.clauses)) n above (omega (arith, past, length-range_with_len 1 (length f.clauses)))
          ∙ sym (at_number (order_list order ++ f.clauses) n some ∙ slice_get_past (order_list order ++ f.clauses) (n - 1) (omega (arith, past, length-append (order_list order) f.clauses)))
    ]
  ]
]
  where
    at_number : (cs : List (List Lit)) (k : ℕ) → (k ≡ 0 → ⊥) → numbered cs k ≡ slice_get cs (k - 1)
    at_number cs k other = rw (ne_eqb k 0 other) refl

    stored : length (order_list order) < n → n ≤ length (order_list order) + length f.clauses → live (whole_clauses order t.clauses (range_with_len 1 (length f.clauses))) n ≡ numbered (order_list order ++ f.clauses) n
    stored above within =
        let placed = whole-above order t.clauses (range_with_len 1 (length f.clauses)) n above (omega (arith, within, length-range_with_len 1 (length f.clauses))) in
        let item = range-item 1 (length f.clauses) placed.index placed.number placed.got in
        placed.same ∙ start.numbers placed.number ∙ at_number f.clauses placed.number (λ none. omega (arith, none, item.1))
        ∙ ap (slice_get f.clauses) (let same : placed.number - 1 ≡ placed.index = omega (arith, item.1) in same)
        ∙ sym (item-right (order_list order) f.clauses placed.index)
        ∙ ap (slice_get (order_list order ++ f.clauses)) (let same : length (order_list order) + placed.index ≡ n - 1 = omega (arith, placed.number_is) in same)
        ∙ sym (at_number (order_list order ++ f.clauses) n (λ none. omega (arith, none, above)))

-- what contracts see of a new order trail
pub IsStart-whole : (order : Order) (f whole : Formula) (t : State) (names places : List ℕ) → IsStart f t → places ≡ range_with_len 1 (length f.clauses) → IsWhole order f whole → IsStart whole (whole_state order (record { trail = t; names = names }) places false)
IsStart-whole order f whole t names places start places_are is = rw places_are (record {
  vars = start.vars ∙ sym is.vars;
  numbers = λ n. numbers-whole order f t n start ∙ ap (λ cs. numbered cs n) (sym is.clauses);
  last = omega (arith, whole-length order t.clauses (range_with_len 1 (length f.clauses)), length-range_with_len 1 (length f.clauses), ap length is.clauses, length-append (order_list order) f.clauses);
  empty = ap (map (renamed names)) start.empty;
  level = start.level;
  unready = refl;
})
