-- What the cells of a row say of the history.
use Rattle.std.proofs.Common.{◌≡◌, ℕ, ◌+◌, ◌*◌, ◌<◌, ◌⊎◌, Bool, false, List, [], ◌∷◌, length, get_or, Option, None, Some, inl, inr, refl, sym, ap, ◌∙◌, subst}
use Rattle.std.specs.Prelude.{◌↔◌, IsTrue, MatchOption, slice_get}
use Rattle.std.specs.List.{Contains}
use Rattle.std.proofs.lemmas.Bool.{cases_Bool, cases_eq, true≢false}
use Rattle.std.proofs.lemmas.List.Elements.{Contains-append_right}
use Rattle.std.proofs.lemmas.Option.{get_or_from_slice_get, none-some, slice_get-get_or}
use Rattle.list_base.proofs.Members.{cons_cases, here, here_same, nowhere, only, there}
use Rattle.bspl_types.specs.declared.event.Event.{Event}
use Rattle.bspl_types.specs.declared.expanded.Expanded.{Expanded}
use Rattle.bspl_types.specs.declared.protocol.Carried.{Carried}
use Rattle.bspl_types.specs.declared.value.Value.{Value}
use Rattle.bspl_types.specs.History.{instance_of}
use Rattle.bspl_types.specs.Instance.{pairs}
use Rattle.bspl_types.specs.Knowledge.{IsKnown, Knows}
use Rattle.bspl_types.specs.Value.{EqualValuesAreOne, equal_values}
use Rattle.role_knowledge.specs.FirstKnown.{IsFirstKnown}
use Rattle.stamped_history.specs.Local.{KnowsOneValue}
use Rattle.local_store.specs.State.{StoreState, acts_of, key_at}
use Rattle.local_store.specs.inner.Acts.{ActsState}
use Rattle.local_store.specs.inner.Grids.{cell_at, mark_at}
use Rattle.local_store.specs.inner.Kept.{HasEvent, IsKept, rows_of, state_of}
use Rattle.local_store.proofs.InstanceLemmas.{knows_own}

-- what a cell says of its parameter
abbrev pub Reads : Expanded → List Event → List Value → ℕ → Option Value → Type 0
Reads x history key p cell = MatchOption cell (¬ IsKnown x history key p) (Knows x history key p)

reads_by : (x : Expanded) (history : List Event) (key : List Value) (p : ℕ) (cell : Option Value) → ((v : Value) → (cell ≡ Some v) ↔ (Knows x history key p v)) → Reads x history key p cell
reads_by x history key p None exact = λ known. none-some known.0 ((exact known.0).1 known.1)
reads_by x history key p (Some v) exact = (exact v).0 refl

pub reads_cell : (x : Expanded) (role clock : ℕ) (keys : List (List Value)) (cells : List (Option Value)) (marks : List Bool) (log : ActsState) (s : StoreState) (row p : ℕ) → IsKept x role (rows_of x keys cells marks) log clock → state_of x role (rows_of x keys cells marks) log ≡ s → row < length s.keys → p < length s.protocol.params → Reads s.protocol (acts_of s) (key_at s row) p (cell_at (length x.params) cells row p)
reads_cell x role clock keys cells marks log s row p kept view within exists =
    let st = state_of x role (rows_of x keys cells marks) log in
    let row0 : row < length keys = subst (λ t. row < length t.keys) (sym view) within in
    let p0 : p < length x.params = subst (λ t. p < length t.protocol.params) (sym view) exists in
    subst (λ t. Reads t.protocol (acts_of t) (key_at t row) p (cell_at (length x.params) cells row p)) view
    (reads_by x (acts_of st) (get_or keys row []) p (cell_at (length x.params) cells row p) (λ v. kept.index.knows row (get_or keys row []) p v (slice_get-get_or keys row [] row0) p0))

-- the item that was read
pub read_cell : (cells : List (Option Value)) (w width row p : ℕ) (found : Option Value) → w ≡ width → slice_get cells (row * w + p) ≡ Some found → cell_at width cells row p ≡ found
read_cell cells w width row p found same is = sym (ap (λ k. get_or cells (row * k + p) None) same) ∙ get_or_from_slice_get cells (row * w + p) found None is

pub reads_mark : (x : Expanded) (role clock : ℕ) (keys : List (List Value)) (cells : List (Option Value)) (marks : List Bool) (log : ActsState) (s : StoreState) (w row m : ℕ) (found : Bool) → IsKept x role (rows_of x keys cells marks) log clock → w ≡ length x.messages → state_of x role (rows_of x keys cells marks) log ≡ s → row < length s.keys → m < length s.protocol.messages → slice_get marks (row * w + m) ≡ Some found → IsTrue found ↔ HasEvent (acts_of s) (key_at s row) m
reads_mark x role clock keys cells marks log s w row m found kept same view within exists is =
    let st = state_of x role (rows_of x keys cells marks) log in
    let row0 : row < length keys = subst (λ t. row < length t.keys) (sym view) within in
    let m0 : m < length x.messages = subst (λ t. m < length t.protocol.messages) (sym view) exists in
    let mark : mark_at (length x.messages) marks row m ≡ found = sym (ap (λ k. get_or marks (row * k + m) false) same) ∙ get_or_from_slice_get marks (row * w + m) found false is in
    let happened = kept.index.happened row (get_or keys row []) m (slice_get-get_or keys row [] row0) m0 in
    subst (λ t. IsTrue found ↔ HasEvent (acts_of t) (key_at t row) m) view
    (λ yes. happened.0 (mark ∙ yes), λ has. sym mark ∙ happened.1 has)

-- a pair for the parameter, or none
find_pair : (pairs : List (Carried × Value)) (p : ℕ) → ((pair : Carried × Value) × Contains pairs pair × (pair.0.param ≡ p)) ⊎ ((pair : Carried × Value) → Contains pairs pair → pair.0.param ≡ p → ⊥)
find_pair [] p = inr (λ pair among is. nowhere pair among)
find_pair (pair ∷ pairs) p = elim (cases_eq pair.0.param p) [
  | inl is ↦ inl (pair, here pair pairs, is)
  | inr other ↦ elim (find_pair pairs p) [
    | inl (found, among, is) ↦ inl (found, there pair pairs found among, is)
    | inr none ↦ inr (λ q among is. elim (cons_cases pair pairs q among) [
      | inl same ↦ other (ap (λ r. r.0.param) same ∙ is)
      | inr later ↦ none q later is
    ])
  ]
]

-- one event makes the parameter known under the key, or not
known_or_not : EqualValuesAreOne → (x : Expanded) (e : Event) (key : List Value) (p : ℕ) → IsKnown x (e ∷ []) key p ⊎ (¬ IsKnown x (e ∷ []) key p)
known_or_not law x e key p = elim (cases_Bool (equal_values (instance_of e).key key)) [
  | inl same ↦ elim (find_pair (pairs x (instance_of e)) p) [
    | inl (pair, among, is) ↦ inl (pair.1, subst (λ q. Knows x (e ∷ []) key q pair.1) is (knows_own x (e ∷ []) e key pair.0 pair.1 (here e []) ((law (instance_of e).key key).0 same) among))
    | inr none ↦ inr (λ known. none (record { param = p; adornment = known.1.adornment }, known.0) (subst (λ f. Contains (pairs x (instance_of f)) (record { param = p; adornment = known.1.adornment }, known.0)) (sym (only e known.1.event known.1.among)) known.1.carries) refl)
  ]
  | inr other ↦ inr (λ known. true≢false (sym ((law (instance_of e).key key).1 (ap (λ f. (instance_of f).key) (only e known.1.event known.1.among) ∙ known.1.under)) ∙ other))
]

-- what is known from an event and those after it
known_cons : (x : Expanded) (e : Event) (history : List Event) (key : List Value) (p : ℕ) (v : Value) → Knows x (e ∷ history) key p v → Knows x (e ∷ []) key p v ⊎ Knows x history key p v
known_cons x e history key p v k = elim (cons_cases e history k.event k.among) [
  | inl is ↦ inl (record { event = k.event; among = here_same e [] k.event is; under = k.under; adornment = k.adornment; carries = k.carries })
  | inr later ↦ inr (record { event = k.event; among = later; under = k.under; adornment = k.adornment; carries = k.carries })
]

-- what is known is known first from some event
some_first : EqualValuesAreOne → (x : Expanded) (history : List Event) (key : List Value) (p : ℕ) (v : Value) → Knows x history key p v → (w : Value) × IsFirstKnown x history key p w
some_first law x [] key p v known = absurd (nowhere known.event known.among)
some_first law x (e ∷ history) key p v known = elim (known_or_not law x e key p) [
  | inl (w, knows) ↦ (w, record { before = []; event = e; after = history; split = refl; unknown = λ k. nowhere k.1.event k.1.among; knows = knows })
  | inr not ↦ elim (known_cons x e history key p v known) [
    | inl own ↦ absurd (not (v, own))
    | inr later ↦
        let (w, first) = some_first law x history key p v later in (
          w,
          record {
            before = e ∷ first.before;
            event = first.event;
            after = first.after;
            split = ap (λ h. e ∷ h) first.split;
            unknown = λ k. elim (known_cons x e first.before key p k.0 k.1) [
              | inl own ↦ not (k.0, own)
              | inr before ↦ first.unknown (k.0, before)
            ];
            knows = first.knows;
          },
        )
  ]
]

-- what is known first is known
pub known_from_first : (x : Expanded) (history : List Event) (key : List Value) (p : ℕ) (v : Value) → IsFirstKnown x history key p v → Knows x history key p v
known_from_first x history key p v first =
    let k = first.knows in
    let among = Contains-append_right first.before (first.event ∷ first.after) k.event (here_same first.event first.after k.event (only first.event k.event k.among)) in
    record { event = k.event; among = subst (λ h. Contains h k.event) (sym first.split) among; under = k.under; adornment = k.adornment; carries = k.carries }

-- and a value that is known is the first one, if there is one alone
pub first_known : EqualValuesAreOne → (x : Expanded) (history : List Event) (key : List Value) (p : ℕ) (v : Value) → KnowsOneValue x history → Knows x history key p v → IsFirstKnown x history key p v
first_known law x history key p v one known =
    let (w, first) = some_first law x history key p v known in
    subst (IsFirstKnown x history key p) (one key p w v (known_from_first x history key p w first) known) first
