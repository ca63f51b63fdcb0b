-- An entry by its event, its stamp and its number.
use Rattle.std.proofs.Common.{◌≡◌, ℕ, zero, suc, Option, None, Some, List, [], ◌∷◌, ap, map, sym, ◌∙◌}
use Rattle.std.specs.Prelude.{slice_get}
use Rattle.bspl_types.specs.declared.event.Event.{Event}
use Rattle.stamped_history.specs.declared.entry.Entry.{Entry}

-- the event of a pair that is there
abbrev event_or : Event → Option (Event × ℕ) → Event
event_or event None = event
event_or event (Some pair) = pair.0

-- its stamp
abbrev stamp_or : ℕ → Option (Event × ℕ) → ℕ
stamp_or stamp None = stamp
stamp_or stamp (Some pair) = pair.1

-- what is at the index in the three lists is the entry there
pub entry_at : (entries : List Entry) (i : ℕ) (event : Event) (stamp number : ℕ) → slice_get {X = Event × ℕ} (map (λ e. (e.event, e.stamp)) entries) i ≡ Some (event, stamp) → slice_get {X = ℕ} (map (λ e. e.number) entries) i ≡ Some number → slice_get entries i ≡ Some (record { event = event; stamp = stamp; number = number })
entry_at [] i event stamp number at also = absurd (cc)
entry_at (e ∷ entries) zero event stamp number at also =
    let event_is : e.event ≡ event = ap (event_or event) at in
    let stamp_is : e.stamp ≡ stamp = ap (stamp_or stamp) at in
    let number_is : e.number ≡ number = cc in
    λ j. Some (record { event = event_is j; stamp = stamp_is j; number = number_is j })
entry_at (e ∷ entries) (suc i) event stamp number at also = entry_at entries i event stamp number at also

-- its event and its stamp are those of the pair there
pub pair_is : (entries : List Entry) (i : ℕ) (entry : Entry) (event : Event) (stamp : ℕ) → slice_get entries i ≡ Some entry → slice_get {X = Event × ℕ} (map (λ e. (e.event, e.stamp)) entries) i ≡ Some (event, stamp) → (entry.event ≡ event) × (entry.stamp ≡ stamp)
pair_is [] i entry event stamp at also = absurd (cc)
pair_is (e ∷ entries) zero entry event stamp at also =
    let same : e ≡ entry = cc in
    (ap (λ (f : Entry). f.event) (sym same) ∙ ap (event_or event) also, ap (λ (f : Entry). f.stamp) (sym same) ∙ ap (stamp_or stamp) also)
pair_is (e ∷ entries) (suc i) entry event stamp at also = pair_is entries i entry event stamp at also

-- its number is the one there
pub number_is : (entries : List Entry) (i : ℕ) (entry : Entry) (number : ℕ) → slice_get entries i ≡ Some entry → slice_get {X = ℕ} (map (λ e. e.number) entries) i ≡ Some number → entry.number ≡ number
number_is [] i entry number at also = absurd (cc)
number_is (e ∷ entries) zero entry number at also =
    let same : e ≡ entry = cc in
    let is : e.number ≡ number = cc in
    ap (λ (f : Entry). f.number) (sym same) ∙ is
number_is (e ∷ entries) (suc i) entry number at also = number_is entries i entry number at also
