-- The value that a history without two values of a parameter knows is the first one.
use Rattle.std.proofs.Common.{◌≡◌, ℕ, ◌<◌, ◌⊎◌, inl, inr, Some, None, List, [], ◌∷◌, ◌++◌, length, refl, sym, ap, ◌∙◌, subst, arith, option_map, take, All, Contains}
use Rattle.std.specs.Prelude.{slice_get}
use Rattle.std.proofs.lemmas.Bool.{cases_Bool, cases_eq}
use Rattle.std.proofs.lemmas.List.{append_assoc, append-nil}
use Rattle.std.proofs.lemmas.List.Elements.{All-contains, Contains-append_left, Contains-append_right, Contains-push_cases}
use Rattle.std.proofs.lemmas.Option.{slice_get-map, slice_get_cases, slice_get_within}
use Rattle.list_base.proofs.Members.{cons_cases, here, nowhere, only, there}
use Rattle.list_base.proofs.Membership.{early_member, member_at}
use Rattle.bspl_types.specs.declared.event.Event.{Event}
use Rattle.bspl_types.specs.declared.expanded.Expanded.{Expanded}
use Rattle.bspl_types.specs.declared.protocol.Adornment.{Adornment}
use Rattle.bspl_types.specs.declared.protocol.Carried.{Carried}
use Rattle.bspl_types.specs.declared.value.Value.{Value}
use Rattle.bspl_types.specs.History.{history_of, instance_of}
use Rattle.bspl_types.specs.Instance.{pairs}
use Rattle.bspl_types.specs.Knowledge.{IsKnown, Knows}
use Rattle.bspl_types.specs.Value.{equal_values, EqualValuesAreOne}
use Rattle.role_knowledge.specs.FirstKnown.{IsFirstKnown}
use Rattle.adapter.specs.Desk.{DeskState}
use Rattle.local_store.specs.State.{acts_of}
use Rattle.stamped_history.specs.TableValue.{IsTableValue}
use Rattle.stamped_history.specs.Entries.{events_of}
use Rattle.stamped_history.specs.Explained.{AreLocal}
use Rattle.stamped_history.specs.Local.{KnowsOneValue}
use Rattle.world_run.specs.World.{AreDesksOf, HasHistories, histories_of}
use Rattle.world_run.specs.inner.Unknown.{IsUnknownAt}
use Rattle.world_run.proofs.WorldLemmas.{history_is, history_past}

-- a pair of the parameter
record HasPair (ps : List (Carried × Value)) (p : ℕ) : Type 0 where
  adornment : Adornment
  value : Value
  among : Contains ps (record { param = p; adornment = adornment }, value)

-- there is one, or none
find_pair : (ps : List (Carried × Value)) (p : ℕ) → HasPair ps p ⊎ ((a : Adornment) (v : Value) → Contains ps (record { param = p; adornment = a }, v) → ⊥)
find_pair [] p = inr (λ a v among. nowhere (record { param = p; adornment = a }, v) among)
find_pair (q ∷ ps) p = elim (cases_eq q.0.param p) [
  | inl same ↦ inl (record {
    adornment = q.0.adornment;
    value = q.1;
    among = subst (λ n. Contains (q ∷ ps) (record { param = n; adornment = q.0.adornment }, q.1)) same (here q ps);
  })
  | inr differs ↦ elim (find_pair ps p) [
    | inl found ↦ inl (record {
      adornment = found.adornment;
      value = found.value;
      among = there q ps (record { param = p; adornment = found.adornment }, found.value) found.among;
    })
    | inr none ↦ inr (λ a v among. elim (cons_cases q ps (record { param = p; adornment = a }, v) among) [
      | inl is ↦ differs (ap (λ (r : Carried × Value). r.0.param) is)
      | inr rest ↦ none a v rest
    ])
  ]
]

-- whether one event makes the parameter known
decide : EqualValuesAreOne → (x : Expanded) (e : Event) (key : List Value) (p : ℕ) → IsKnown x (e ∷ []) key p ⊎ (IsKnown x (e ∷ []) key p → ⊥)
decide one x e key p = elim (cases_Bool (equal_values (instance_of e).key key)) [
  | inl same ↦ elim (find_pair (pairs x (instance_of e)) p) [
    | inl found ↦ inl (
      found.value,
      record {
        event = e;
        among = here e [];
        under = (one (instance_of e).key key).0 same;
        adornment = found.adornment;
        carries = found.among;
      },
    )
    | inr none ↦ inr (λ known. none known.1.adornment known.0 (subst (λ (f : Event). Contains (pairs x (instance_of f)) (record { param = p; adornment = known.1.adornment }, known.0)) (sym (only e known.1.event known.1.among)) known.1.carries))
  ]
  | inr differs ↦ inr (λ known.
      let is : (instance_of e).key ≡ key = ap (λ (f : Event). (instance_of f).key) (only e known.1.event known.1.among) ∙ known.1.under in
      absurd (grind (arith, differs, (one (instance_of e).key key).1 is)))
]

-- events that make nothing known, and one more that does not
none_more : (x : Expanded) (before : List Event) (e : Event) (key : List Value) (p : ℕ) → (IsKnown x before key p → ⊥) → (IsKnown x (e ∷ []) key p → ⊥) → IsKnown x (before ++ e ∷ []) key p → ⊥
none_more x before e key p unknown silent known =
    let k = known.1 in
    elim (Contains-push_cases before e k.event k.among) [
      | inl early ↦ unknown (known.0, record { event = k.event; among = early; under = k.under; adornment = k.adornment; carries = k.carries })
      | inr is ↦ silent (known.0, record { event = k.event; among = subst (λ (f : Event). Contains (e ∷ []) f) is (here e []); under = k.under; adornment = k.adornment; carries = k.carries })
    ]

-- a history has a first value, or none
first_in : EqualValuesAreOne → (x : Expanded) (before rest : List Event) (key : List Value) (p : ℕ) → (IsKnown x before key p → ⊥) → ((w : Value) × IsFirstKnown x (before ++ rest) key p w) ⊎ (IsKnown x (before ++ rest) key p → ⊥)
first_in one x before [] key p unknown = inr (subst (λ h. IsKnown x h key p → ⊥) (sym (append-nil before)) unknown)
first_in one x before (e ∷ rest) key p unknown = elim (decide one x e key p) [
  | inl known ↦ inl (
    known.0,
    record {
      before = before;
      event = e;
      after = rest;
      split = refl;
      unknown = unknown;
      knows = known.1;
    },
  )
  | inr silent ↦
      subst (λ h. ((w : Value) × IsFirstKnown x h key p w) ⊎ (IsKnown x h key p → ⊥)) (append_assoc before (e ∷ []) rest)
      (first_in one x (before ++ e ∷ []) rest key p (none_more x before e key p unknown silent))
]

-- what is known first is known
pub known_first : (x : Expanded) (history : List Event) (key : List Value) (p : ℕ) (w : Value) → IsFirstKnown x history key p w → Knows x history key p w
known_first x history key p w first =
    let k = first.knows in
    record {
      event = k.event;
      among = subst (λ h. Contains h k.event) (sym first.split) (Contains-append_right first.before (first.event ∷ first.after) k.event (Contains-append_left (first.event ∷ []) first.after k.event k.among));
      under = k.under;
      adornment = k.adornment;
      carries = k.carries;
    }

-- the one value that is known is the first
first_known : EqualValuesAreOne → (x : Expanded) (history : List Event) (key : List Value) (p : ℕ) (v : Value) → KnowsOneValue x history → Knows x history key p v → IsFirstKnown x history key p v
first_known one x history key p v unique knows = elim (first_in one x [] history key p (λ known. nowhere known.1.event known.1.among)) [
  | inl found ↦ subst (IsFirstKnown x history key p) (unique key p found.0 v (known_first x history key p found.0 found.1) knows) found.1
  | inr none ↦ absurd (none (v, knows))
]

-- a desk's history in the run
pub history_run : (x : Expanded) (desks : List DeskState) (run : List Event) (role : ℕ) (d : DeskState) → HasHistories x desks run → slice_get desks role ≡ Some d → history_of x role run ≡ acts_of d.store
history_run x desks run role d has at = has role ∙ ap events_of (history_is desks role d at)

-- what a store does not know, its role's history in the run does not
unknown_in_run : (x : Expanded) (desks : List DeskState) (run : List Event) (key : List Value) (p role : ℕ) (d : DeskState) → AreDesksOf x desks → HasHistories x desks run → slice_get desks role ≡ Some d → IsUnknownAt key p d → IsKnown x (history_of x role run) key p → ⊥
unknown_in_run x desks run key p role d are has at unknown known =
    unknown (subst (λ (y : Expanded). IsKnown y (acts_of d.store) key p) (sym (are.each role d at).protocol_is)
    (subst (λ h. IsKnown x h key p) (history_run x desks run role d has at) known))

-- the table has the value of the first store that knows one
pub table_some : EqualValuesAreOne → (desks : List DeskState) (index : ℕ) (d : DeskState) (key : List Value) (p : ℕ) (v : Value) → slice_get desks index ≡ Some d → All (IsUnknownAt key p) (take index desks) → Knows d.store.protocol (acts_of d.store) key p v → (x : Expanded) (run : List Event) → AreDesksOf x desks → AreLocal x (histories_of desks) → HasHistories x desks run → IsTableValue x run key p (Some v)
table_some one desks index d key p v at before knows x run are local has =
    let known : Knows x (history_of x index run) key p v =
    subst (λ h. Knows x h key p v) (sym (history_run x desks run index d has at))
    (subst (λ (y : Expanded). Knows y (acts_of d.store) key p v) (are.each index d at).protocol_is knows) in
    let within : index < length (histories_of desks) = slice_get_within (histories_of desks) index d.store.entries
    (slice_get-map (λ (e : DeskState). e.store.entries) desks index ∙ ap (option_map (λ (e : DeskState). e.store.entries)) at) in
    let unique : KnowsOneValue x (history_of x index run) = subst (KnowsOneValue x) (sym (has index)) (local.each index within).one_value in
    record {
      role = index;
      first = first_known one x (history_of x index run) key p v unique known;
      lowest = λ other lower known_there. elim (slice_get_cases desks other).1 [
        | inl found ↦ unknown_in_run x desks run key p other found.0 are has found.2
            (All-contains (IsUnknownAt key p) (take index desks) found.0 before (early_member desks other index found.0 found.2 lower)) known_there
        | inr past ↦ absurd (omega (arith, past.0, lower, slice_get_within desks index d at))
      ];
    }

-- it has none if no store knows one
pub table_none : (desks : List DeskState) (key : List Value) (p : ℕ) → All (IsUnknownAt key p) desks → (x : Expanded) (run : List Event) → AreDesksOf x desks → AreLocal x (histories_of desks) → HasHistories x desks run → IsTableValue x run key p None
table_none desks key p all x run are local has role known = elim (slice_get_cases desks role).1 [
  | inl found ↦ unknown_in_run x desks run key p role found.0 are has found.2
      (All-contains (IsUnknownAt key p) desks found.0 all (member_at desks role found.0 found.2)) known
  | inr past ↦ nowhere known.1.event (subst (λ h. Contains h known.1.event) (has role ∙ ap events_of (history_past desks role past.0)) known.1.among)
]
