-- What contracts see of a trail with names as it grows.
use Rattle.std.proofs.Common.{◌≡◌, ℕ, ◌-◌, ◌<◌, ◌≤◌, Bool, Option, Some, None, IsSome, IfSome, option_map, List, [], ◌∷◌, ◌++◌, ◌⊎◌, inl, inr, length, get_or, map, sym, ap, refl, ◌∙◌, subst, arith, All}
use Rattle.std.specs.Prelude.{◌==◌}
use Rattle.std.proofs.lemmas.Bool.{cases_Bool}
use Rattle.std.proofs.lemmas.Option.{get_or_from_slice_get}
use Rattle.std.proofs.lemmas.List.{get_or_default, map-append}
use Rattle.std.proofs.lemmas.List.Elements.{All-head, All-map, All-tail, All-weaker}
use Rattle.list_base.proofs.Pigeonhole.{parted}
use Rattle.clause_core.specs.Numbering.{live}
use Rattle.clause_core.specs.Propagation.{Falsifies, IsFalsified}
use Rattle.order_axioms.specs.declared.order.Order.{Order}
use Rattle.order_axioms.specs.Order.{order_list}
use Rattle.sat_trail.specs.declared.entry.Entry.{Entry}
use Rattle.sat_trail.specs.Entry.{reason_of, values_of}
use Rattle.sat_trail.specs.Growth.{IsDecision, IsForced}
use Rattle.sat_trail.specs.Levels.{HasCauses}
use Rattle.sat_trail.specs.State.{State, numbering_of, last_number}
use Rattle.sat_trail.specs.Trail.{Propagates}
use Rattle.order_propagator.specs.declared.named_trail.NamedTrail.{NamedTrail}
use Rattle.order_propagator.specs.inner.Making.{CanMake, Grows}
use Rattle.order_propagator.specs.inner.Names.{ArePlaces, HasName, name_of}
use Rattle.order_propagator.specs.inner.Whole.{renamed, whole_clauses, whole_state}
use Rattle.order_propagator.proofs.EntryLemmas.{reason_of-renamed, values-renamed}
use Rattle.order_propagator.proofs.GrowthLemmas.{state}
use Rattle.order_propagator.proofs.LevelLemmas.{reason-named}
use Rattle.order_propagator.proofs.MapLemmas.{map_agree, map_agree_all}
use Rattle.order_propagator.proofs.NameLemmas.{name_of-more}
use Rattle.order_propagator.proofs.NumberLemmas.{number_within, place_within}
use Rattle.order_propagator.proofs.TrailLemmas.{number-whole}

-- the reason, if there is one, is the number of a clause
abbrev pub HasReasonWithin : ℕ → Entry → Type 0
HasReasonWithin last e = IfSome e.reason (λ n. (0 < n) × (n ≤ last))

-- the reasons of a trail are numbers of its clauses
pub reasons-within : (t : State) → HasCauses t → All (HasReasonWithin (last_number t)) t.entries
reasons-within t causes k d within =
    let parts = parted t.entries k (get_or t.entries k d) within (get_or_default t.entries k (get_or t.entries k d) d within) in
    reason-within (get_or t.entries k d) parts.0 (causes parts.0 parts.1 (get_or t.entries k d) parts.2).cause
  where
    reason-within : (e : Entry) (before : List Entry) → IsDecision (numbering_of t) before e ⊎ IsForced (numbering_of t) before e → HasReasonWithin (last_number t) e
    reason-within e before cause = elim cause [
      | inl decision ↦ subst (λ o. IfSome o (λ n. (0 < n) × (n ≤ last_number t))) (sym decision.no_reason) tt
      | inr forced ↦ subst (λ o. IfSome o (λ n. (0 < n) × (n ≤ last_number t))) (sym forced.reason) (number_within t.clauses forced.number forced.clause forced.has_number.there)
    ]

-- more names leave an entry its name
renamed-more : (names more : List ℕ) (e : Entry) → HasReasonWithin (length names) e → renamed (names ++ more) e ≡ renamed names e
renamed-more names more e within = ap (λ r. let d : Entry = record { lit = e.lit; level = e.level; reason = r } in d) (same e.reason within)
  where
    same : (o : Option ℕ) → IfSome o (λ n. (0 < n) × (n ≤ length names)) → option_map (name_of (names ++ more)) o ≡ option_map (name_of names) o
    same None none = refl
    same (Some n) given = ap Some (name_of-more names more n given.0 given.1)

-- the entries of a trail keep their names
pub entries-more : (order : Order) (t : NamedTrail) (more : List ℕ) → CanMake order t → map (renamed (t.names ++ more)) t.trail.entries ≡ map (renamed t.names) t.trail.entries
entries-more order t more can =
    map_agree_all (HasReasonWithin (length t.names)) (renamed (t.names ++ more)) (renamed t.names) t.trail.entries (renamed-more t.names more)
    (subst (λ n. All (HasReasonWithin n) t.trail.entries) (sym can.named.all) (reasons-within t.trail can.trail.causes))

-- the clauses at the places stay
pub clauses-kept : (order : Order) (a b : NamedTrail) (places : List ℕ) → CanMake order a → ArePlaces order a.names places → ((number : ℕ) → number ≤ last_number a.trail → numbering_of b.trail number ≡ numbering_of a.trail number) → whole_clauses order b.trail.clauses places ≡ whole_clauses order a.trail.clauses places
clauses-kept order a b places can are_places kept =
    ap (λ rest. map (λ c. Some c) (order_list order) ++ rest)
    (map_agree (live b.trail.clauses) (live a.trail.clauses) places (λ i number got. kept number (place_within order a.trail.clauses a.names places i number can.named are_places got).1))

-- what contracts see grows by forced entries
pub propagates-whole : (order : Order) (a b : NamedTrail) (places : List ℕ) (before now : Bool) → Grows order a b → CanMake order a → ArePlaces order a.names places → Propagates (whole_state order a places before) (whole_state order b places now)
propagates-whole order a b places before now g can are_places = record {
  added = map (renamed b.names) g.added;
  forced = All-map (λ (e : Entry). (e.level ≡ a.trail.level) × IsSome e.reason) (renamed b.names) g.added
      (All-weaker (λ (e : Entry). (e.level ≡ a.trail.level) × IsSome e.reason) (λ (e : Entry). (e.level ≡ a.trail.level) × IsSome (renamed b.names e).reason) (λ e forced. (forced.0, reason-named b.names e forced.1)) g.added g.forced);
  grows = ap (λ cs. state b.trail.vars cs (map (renamed b.names) b.trail.entries) b.trail.level now) (clauses-kept order a b places can are_places g.kept)
      ∙ ap (λ (s : State). state s.vars (whole_clauses order a.trail.clauses places) (map (renamed b.names) s.entries) s.level now) g.entries
      ∙ ap (λ es. state a.trail.vars (whole_clauses order a.trail.clauses places) es a.trail.level now) entries;
}
  where
    entries : map (renamed b.names) (a.trail.entries ++ g.added) ≡ map (renamed a.names) a.trail.entries ++ map (renamed b.names) g.added
    entries = map-append (renamed b.names) a.trail.entries g.added
        ∙ ap (λ es. es ++ map (renamed b.names) g.added) (ap (λ ns. map (renamed ns) a.trail.entries) g.names ∙ entries-more order a g.made can)

-- a clause that is false is false under its name
pub falsified-whole : (order : Order) (t : NamedTrail) (places : List ℕ) (ready : Bool) (number : ℕ) → CanMake order t → ArePlaces order t.names places → IsFalsified (numbering_of t.trail) (values_of t.trail.entries) number → IsFalsified (numbering_of (whole_state order t places ready)) (values_of (map (renamed t.names) t.trail.entries)) (name_of t.names number)
falsified-whole order t places ready number can are_places false_one = record {
  clause = false_one.clause;
  has_number = number-whole order t.trail.clauses t.names places number false_one.clause can.named are_places false_one.has_number;
  falsified = subst (λ values. Falsifies values false_one.clause) (sym (values-renamed t.names t.trail.entries)) false_one.falsified;
}

-- a reason that is found is one of the entries'
all-found : (last : ℕ) (es : List Entry) (v n : ℕ) → All (HasReasonWithin last) es → reason_of es v ≡ Some n → (0 < n) × (n ≤ last)
all-found last [] v n all found = cc
all-found last (e ∷ es) v n all found = elim (cases_Bool (e.lit.var == v)) [
  | inl here ↦ subst (λ o. IfSome o (λ k. (0 < k) × (k ≤ last))) (rw here at found) (All-head (HasReasonWithin last) e es all)
  | inr elsewhere ↦ all-found last es v n (All-tail (HasReasonWithin last) e es all) (rw elsewhere at found)
]

-- the reason of a variable has a name
pub reason-number : (order : Order) (t : NamedTrail) (v n : ℕ) → CanMake order t → reason_of t.trail.entries v ≡ Some n → (0 < n) × (n ≤ length t.names)
reason-number order t v n can found =
    let within = all-found (last_number t.trail) t.trail.entries v n (reasons-within t.trail can.trail.causes) found in
    (within.0, omega (arith, within.1, can.named.all))

-- the name of a number is what it has
pub name-is : (names : List ℕ) (number name : ℕ) → HasName names number name → name_of names number ≡ name
name-is names number name has = get_or_from_slice_get names (number - 1) name 0 has.there

-- the reason of a variable, if there is one, is named
pub reason-whole : (order : Order) (t : NamedTrail) (v n name : ℕ) → reason_of t.trail.entries v ≡ Some n → HasName t.names n name → Some name ≡ reason_of (map (renamed t.names) t.trail.entries) v
reason-whole order t v n name found has = sym (reason_of-renamed t.names t.trail.entries v ∙ ap (option_map (name_of t.names)) found ∙ ap Some (name-is t.names n name has))

-- a clause that is false is false under the name that its number has
pub falsified-named : (order : Order) (t : NamedTrail) (places : List ℕ) (ready : Bool) (number name : ℕ) → CanMake order t → ArePlaces order t.names places → HasName t.names number name → IsFalsified (numbering_of t.trail) (values_of t.trail.entries) number → IsFalsified (numbering_of (whole_state order t places ready)) (values_of (map (renamed t.names) t.trail.entries)) name
falsified-named order t places ready number name can are_places has false_one =
    subst (IsFalsified (numbering_of (whole_state order t places ready)) (values_of (map (renamed t.names) t.trail.entries))) (name-is t.names number name has)
    (falsified-whole order t places ready number can are_places false_one)
