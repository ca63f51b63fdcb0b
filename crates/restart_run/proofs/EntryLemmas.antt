-- An entry by its event, its stamp and its number.
use Rattle.std.proofs.Common.{◌≡◌, ℕ, Option, None, Some, List, map, option_map, sym, ap, ◌∙◌}
use Rattle.std.specs.Prelude.{slice_get}
use Rattle.std.proofs.lemmas.Option.{slice_get-map}
use Rattle.bspl_types.specs.declared.event.Event.{Event}
use Rattle.stamped_history.specs.declared.entry.Entry.{Entry}

-- what is behind `Some`, or else the other
abbrev value_or : {X : Type 0} → X → Option X → X
value_or other None = other
value_or other (Some x) = x

-- what an image of a list has at an index is the image of the item there
image_at : {X Y : Type 0} (f : X → Y) (xs : List X) (k : ℕ) (x : X) (y : Y) → slice_get xs k ≡ Some x → slice_get (map f xs) k ≡ Some y → f x ≡ y
image_at f xs k x y at also = ap (value_or y) (sym (ap (option_map f) at) ∙ sym (slice_get-map f xs k) ∙ also)

-- what is at the index in the two lists is the entry there
pub entry_is : (entries : List Entry) (k : ℕ) (e : Entry) (pair : Event × ℕ) (number : ℕ) → slice_get entries k ≡ Some e → slice_get {X = Event × ℕ} (map (λ (f : Entry). (f.event, f.stamp)) entries) k ≡ Some pair → slice_get {X = ℕ} (map (λ (f : Entry). f.number) entries) k ≡ Some number → slice_get entries k ≡ Some (record { event = pair.0; stamp = pair.1; number = number })
entry_is entries k e pair number at paired numbered =
    let pair_is : (e.event, e.stamp) ≡ pair = image_at (λ (f : Entry). (f.event, f.stamp)) entries k e pair at paired in
    let event : e.event ≡ pair.0 = ap (λ (p : Event × ℕ). p.0) pair_is in
    let stamp : e.stamp ≡ pair.1 = ap (λ (p : Event × ℕ). p.1) pair_is in
    let count : e.number ≡ number = image_at (λ (f : Entry). f.number) entries k e number at numbered in
    at ∙ (λ j. Some (record { event = event j; stamp = stamp j; number = count j }))
