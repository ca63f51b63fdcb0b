-- What the desks of all roles count is what their run counts.
use Rattle.std.proofs.Common.{◌≡◌, ◌≢◌, ℕ, zero, suc, ◌+◌, ◌<◌, ◌≤◌, inl, inr, Bool, true, false, cond, Some, List, [], ◌∷◌, ◌++◌, length, take, get_or, refl, sym, ap, ◌∙◌, arith, option_map}
use Rattle.std.specs.Prelude.{◌==◌, slice_get}
use Rattle.std.specs.List.{count_by, filter, sum_by}
use Rattle.std.proofs.lemmas.Bool.{cases_lt}
use Rattle.std.proofs.lemmas.Bool.Decides.{nat_tests}
use Rattle.std.proofs.lemmas.Grind.{flat_map-append}
use Rattle.std.proofs.lemmas.List.{append-nil, get_or_past, length-map, take_all, take_more}
use Rattle.std.proofs.lemmas.List.Sums.{sum_by-append, sum_by-cons}
use Rattle.std.proofs.lemmas.Option.{get_or_from_slice_get, slice_get-map, slice_get_cases}
use Rattle.bspl_types.specs.declared.event.Event.{Event}
use Rattle.bspl_types.specs.declared.expanded.Expanded.{Expanded}
use Rattle.bspl_types.specs.History.{role_of}
use Rattle.adapter.specs.Desk.{DeskState}
use Rattle.local_store.specs.State.{acts_of}
use Rattle.stamped_history.specs.Entries.{events_of}
use Rattle.world_run.specs.World.{HasHistories, histories_of}
use Rattle.report.specs.inner.Counts.{acts_of_all}

-- the weights of what the first roles have
abbrev by_roles : {X : Type 0} → (X → ℕ) → (X → ℕ) → ℕ → List X → ℕ
by_roles w r zero xs = 0
by_roles w r (suc k) xs = by_roles w r k xs + sum_by w (filter (λ x. r x == k) xs)

-- an item of the role
own_more : {X : Type 0} (w r : X → ℕ) (k : ℕ) (x : X) (xs : List X) → r x ≡ k → sum_by w (filter (λ y. r y == k) (x ∷ xs)) ≡ w x + sum_by w (filter (λ y. r y == k) xs)
own_more w r k x xs same =
    let test : (r x == k) ≡ true = grind (arith, nat_tests) in
    ap (λ (b : Bool). sum_by w (cond b (x ∷ filter (λ y. r y == k) xs) (filter (λ y. r y == k) xs))) test
    ∙ sum_by-cons w x (filter (λ y. r y == k) xs)

-- an item of another role
other_same : {X : Type 0} (r : X → ℕ) (k : ℕ) (x : X) (xs : List X) → r x ≢ k → filter (λ y. r y == k) (x ∷ xs) ≡ filter (λ y. r y == k) xs
other_same r k x xs differs =
    let test : (r x == k) ≡ false = grind (arith, nat_tests) in
    ap (λ (b : Bool). cond b (x ∷ filter (λ y. r y == k) xs) (filter (λ y. r y == k) xs)) test

-- an item of a later role has no weight
late_same : {X : Type 0} (w r : X → ℕ) (k : ℕ) (x : X) (xs : List X) → k ≤ r x → by_roles w r k (x ∷ xs) ≡ by_roles w r k xs
late_same w r zero x xs late = refl
late_same w r (suc k) x xs late =
    let before = late_same w r k x xs (omega arith) in
    let differs : r x ≢ k = λ same. omega (arith, same, late) in
    let here = ap (sum_by w) (other_same r k x xs differs) in
    omega (arith, before, here)

-- an item of one of the first roles has its weight once
early_more : {X : Type 0} (w r : X → ℕ) (k : ℕ) (x : X) (xs : List X) → r x < k → by_roles w r k (x ∷ xs) ≡ w x + by_roles w r k xs
early_more w r zero x xs early = absurd (omega arith)
early_more w r (suc k) x xs early = elim (cases_lt (r x) k) [
  | inl before ↦
      let more = early_more w r k x xs before in
      let differs : r x ≢ k = λ same. omega (arith, same, before) in
      let here = ap (sum_by w) (other_same r k x xs differs) in
      omega (arith, more, here)
  | inr from ↦
      let same : r x ≡ k = omega (arith, early, from) in
      omega (arith, late_same w r k x xs from, own_more w r k x xs same)
]

-- of nothing there is no weight
none_weighs : {X : Type 0} (w r : X → ℕ) (k : ℕ) → by_roles w r k [] ≡ 0
none_weighs w r zero = refl
none_weighs w r (suc k) = omega (arith, none_weighs w r k)

-- if all items are of the first roles, these have the whole weight
whole_weight : {X : Type 0} (w r : X → ℕ) (k : ℕ) (xs : List X) → ((role : ℕ) → k ≤ role → filter (λ y. r y == role) xs ≡ []) → by_roles w r k xs ≡ sum_by w xs
whole_weight w r k [] none = none_weighs w r k
whole_weight w r k (x ∷ xs) none = elim (cases_lt (r x) k) [
  | inl early ↦
      let rest = whole_weight w r k xs (λ role later.
      let differs : r x ≢ role = λ same. omega (arith, same, early, later) in
      sym (other_same r role x xs differs) ∙ none role later) in
      early_more w r k x xs early ∙ ap (λ (n : ℕ). w x + n) rest ∙ sym (sum_by-cons w x xs)
  | inr late ↦
      let test : (r x == r x) ≡ true = grind (arith, nat_tests) in
      let here : x ∷ filter (λ y. r y == r x) xs ≡ [] =
      ap (λ (b : Bool). cond b (x ∷ filter (λ y. r y == r x) xs) (filter (λ y. r y == r x) xs)) (sym test) ∙ none (r x) late in
      absurd (cc)
]

-- the events of one desk more
pub desks_more : (desks : List DeskState) (k : ℕ) (d : DeskState) → k < length desks → get_or desks k d ≡ d → acts_of_all (take (k + 1) desks) ≡ acts_of_all (take k desks) ++ acts_of d.store
desks_more desks k d within is =
    ap acts_of_all (take_more desks k d within ∙ ap (λ (e : DeskState). take k desks ++ e ∷ []) is)
    ∙ flat_map-append (λ (e : DeskState). acts_of e.store) (take k desks) (d ∷ [])
    ∙ ap (λ (es : List Event). acts_of_all (take k desks) ++ es) (append-nil (acts_of d.store))

-- the history of a role is what its desk has
history_is : (x : Expanded) (desks : List DeskState) (run : List Event) (role : ℕ) (d : DeskState) → HasHistories x desks run → slice_get desks role ≡ Some d → filter (λ e. role_of x e == role) run ≡ acts_of d.store
history_is x desks run role d has at =
    has role ∙ ap events_of (get_or_from_slice_get (histories_of desks) role d.store.entries []
    (slice_get-map (λ (e : DeskState). e.store.entries) desks role ∙ ap (option_map (λ (e : DeskState). e.store.entries)) at))

-- past the last desk there is none
history_past : (x : Expanded) (desks : List DeskState) (run : List Event) → HasHistories x desks run → (role : ℕ) → length desks ≤ role → filter (λ e. role_of x e == role) run ≡ []
history_past x desks run has role past =
    has role ∙ ap events_of (get_or_past (histories_of desks) role [] (omega (arith, past, length-map desks (λ (e : DeskState). e.store.entries))))

-- the first desks have the weight of the first roles
desks_weigh : (w : Event → ℕ) (x : Expanded) (desks : List DeskState) (run : List Event) → HasHistories x desks run → (k : ℕ) → k ≤ length desks → sum_by w (acts_of_all (take k desks)) ≡ by_roles w (role_of x) k run
desks_weigh w x desks run has zero all = refl
desks_weigh w x desks run has (suc k) all = elim (slice_get_cases desks k).1 [
  | inl found ↦
      let d : DeskState = found.0 in
      let before = desks_weigh w x desks run has k (omega arith) in
      let next : k + 1 ≡ suc k = omega arith in
      let more = ap (λ (n : ℕ). sum_by w (acts_of_all (take n desks))) (sym next) ∙ ap (sum_by w) (desks_more desks k d found.1 found.3) ∙ sum_by-append w (acts_of_all (take k desks)) (acts_of d.store) in
      let here = ap (sum_by w) (history_is x desks run k d has found.2) in
      omega (arith, before, more, here)
  | inr past ↦ absurd (omega (arith, all, past.0))
]

-- the desks count what their run counts
pub run_counts : (p : Event → Bool) (x : Expanded) (desks : List DeskState) (run : List Event) → HasHistories x desks run → count_by p (acts_of_all desks) ≡ count_by p run
run_counts p x desks run has =
    let w : Event → ℕ = λ e. cond (p e) 1 0 in
    ap (λ (ds : List DeskState). sum_by w (acts_of_all ds)) (sym (take_all (length desks) desks (omega arith)))
    ∙ desks_weigh w x desks run has (length desks) (omega arith)
    ∙ whole_weight w (role_of x) (length desks) run (history_past x desks run has)
