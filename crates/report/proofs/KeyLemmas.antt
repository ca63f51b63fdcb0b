-- The keys of a run with one event more, and how long they are.
use Rattle.std.proofs.Common.{◌≡◌, ℕ, ◌+◌, ◌<◌, subst, get_or, take, Bool, true, false, not, cond, List, [], ◌∷◌, ◌++◌, length, Some, refl, sym, ap, ◌∙◌, ⊎_elim}
use Rattle.std.specs.Prelude.{◌↔◌, ◌||◌, IsTrue, slice_get}
use Rattle.std.specs.List.{All, filter, list_any}
use Rattle.std.proofs.lemmas.Bool.{cases_Bool, true≢false}
use Rattle.std.proofs.lemmas.List.{append-nil, take_more}
use Rattle.std.proofs.lemmas.List.Folds.{list_any-from_Any, list_any_none}
use Rattle.std.proofs.lemmas.Option.{get_or_from_slice_get, slice_get-get_or, slice_get_within}
use Rattle.list_base.proofs.Membership.{early_index, early_member, member_at}
use Rattle.std.proofs.lemmas.List.Elements.{All-cons, All-filter, All-head, All-nil, All-tail, filter-append}
use Rattle.bspl_types.specs.declared.event.Event.{Event}
use Rattle.bspl_types.specs.declared.expanded.Expanded.{Expanded}
use Rattle.bspl_types.specs.declared.value.Value.{Value}
use Rattle.bspl_types.specs.History.{IsRun, instance_of}
use Rattle.bspl_types.specs.Instance.{Fits}
use Rattle.bspl_types.specs.Value.{EqualValuesAreOne, equal_values}
use Rattle.run_index.specs.FirstOfKey.{IsFirstOfKey, IsRepeatOfKey}
use Rattle.report.specs.Keys.{keys_of}

-- a filter that keeps what is looked for does not change whether it is found
kept_found : {X : Type 0} (p t : X → Bool) → ((x : X) → t x ≡ true → p x ≡ true) → (xs : List X) → list_any t (filter p xs) ≡ list_any t xs
kept_found p t kept [] = refl
kept_found p t kept (x ∷ xs) =
    ⊎_elim
    (λ is_yes. rw is_yes (ap (λ found. t x || found) (kept_found p t kept xs)))
    (λ is_no. ⊎_elim
    (λ found. absurd (true≢false (sym (kept x found) ∙ is_no)))
    (λ other. rw is_no (kept_found p t kept xs ∙ sym (ap (λ b. b || list_any t xs) other)))
    (cases_Bool (t x)))
    (cases_Bool (p x))

-- an item that a filter drops does not change what it keeps
dropped_push : {X : Type 0} (p : X → Bool) (xs : List X) (x : X) (b : Bool) → p x ≡ false → filter p (cond b xs (xs ++ x ∷ [])) ≡ filter p xs
dropped_push p xs x true is_no = refl
dropped_push p xs x false is_no = filter-append p xs (x ∷ []) ∙ rw is_no (append-nil (filter p xs))

-- an item that a filter keeps comes after what it keeps of the others
kept_push : {X : Type 0} (p : X → Bool) (xs : List X) (x first : X) (b : Bool) → p x ≡ true → first ∷ filter p (cond b xs (xs ++ x ∷ [])) ≡ cond b (first ∷ filter p xs) (first ∷ filter p xs ++ x ∷ [])
kept_push p xs x first true is_yes = refl
kept_push p xs x first false is_yes = ap (λ ys. first ∷ ys) (filter-append p xs (x ∷ []) ∙ rw is_yes refl)

-- what equals an item is not dropped as equal to one that differs from it
differs : {X : Type 0} (E : X → X → Bool) → ((a b : X) → IsTrue (E a b) ↔ (a ≡ b)) → (first x y : X) → E first x ≡ false → E y x ≡ true → not (E first y) ≡ true
differs E same first x y is_no is_yes =
    ⊎_elim
    (λ equal. absurd (true≢false (sym ((same first x).1 ((same first y).0 equal ∙ (same y x).0 is_yes)) ∙ is_no)))
    (λ other. ap not other)
    (cases_Bool (E first y))

-- one item more after those that are distinct from a first one
distinct_push : {X : Type 0} (E : X → X → Bool) → ((a b : X) → IsTrue (E a b) ↔ (a ≡ b)) → (first x : X) (xs : List X) → first ∷ filter (λ y. not (E first y)) (cond (list_any (λ y. E y x) xs) xs (xs ++ x ∷ [])) ≡ cond (E first x || list_any (λ y. E y x) (filter (λ y. not (E first y)) xs)) (first ∷ filter (λ y. not (E first y)) xs) (first ∷ filter (λ y. not (E first y)) xs ++ x ∷ [])
distinct_push {X = X} E same first x xs =
    let p : X → Bool = λ y. not (E first y) in
    let t : X → Bool = λ y. E y x in
    ⊎_elim
    (λ is_yes. rw is_yes (ap (λ ys. first ∷ ys) (dropped_push p xs x (list_any t xs) (ap not is_yes))))
    (λ is_no.
    let found = ap (λ b. b || list_any t (filter p xs)) is_no ∙ kept_found p t (λ y same_key. differs E same first x y is_no same_key) xs in
    kept_push p xs x first (list_any t xs) (ap not is_no)
    ∙ ap (λ b. cond b (first ∷ filter p xs) (first ∷ filter p xs ++ x ∷ [])) (sym found))
    (cases_Bool (E first x))

-- the key of one event more is put at the end unless it is there
pub keys_push : EqualValuesAreOne → (run : List Event) (event : Event) → keys_of (run ++ event ∷ []) ≡ cond (list_any (λ key. equal_values key (instance_of event).key) (keys_of run)) (keys_of run) (keys_of run ++ (instance_of event).key ∷ [])
keys_push same [] event = refl
keys_push same (e ∷ run) event =
    ap (λ keys. (instance_of e).key ∷ filter (λ key. not (equal_values (instance_of e).key key)) keys) (keys_push same run event)
    ∙ distinct_push equal_values same (instance_of e).key (instance_of event).key (keys_of run)

-- a key is found exactly if some event has it
found_event : EqualValuesAreOne → (key : List Value) (run : List Event) → list_any (λ other. equal_values other key) (keys_of run) ≡ list_any (λ e. equal_values (instance_of e).key key) run
found_event same key [] = refl
found_event same key (e ∷ run) =
    let first = (instance_of e).key in
    let p : List Value → Bool = λ other. not (equal_values first other) in
    let t : List Value → Bool = λ other. equal_values other key in
    ⊎_elim
    (λ is_yes. rw is_yes refl)
    (λ is_no. rw is_no (kept_found p t (λ other is_key. differs equal_values same first key other is_no is_key) (keys_of run) ∙ found_event same key run))
    (cases_Bool (equal_values first key))

-- the keys with that of the next event, unless it is found
keys_next : EqualValuesAreOne → (run : List Event) (i : ℕ) (event : Event) (b : Bool) → slice_get run i ≡ Some event → list_any (λ e. equal_values (instance_of e).key (instance_of event).key) (take i run) ≡ b → cond b (keys_of (take i run)) (keys_of (take i run) ++ (instance_of event).key ∷ []) ≡ keys_of (take (i + 1) run)
keys_next same run i event b at found =
    let key = (instance_of event).key in
    let more : take (i + 1) run ≡ take i run ++ event ∷ [] =
    take_more run i event (slice_get_within run i event at) ∙ ap (λ e. take i run ++ e ∷ []) (get_or_from_slice_get run i event event at) in
    sym (ap keys_of more ∙ keys_push same (take i run) event ∙ ap (λ c. cond c (keys_of (take i run)) (keys_of (take i run) ++ key ∷ [])) (found_event same key (take i run) ∙ found))

-- the first event of its key adds the key
pub key_is_new : EqualValuesAreOne → (run : List Event) (i : ℕ) (event : Event) → slice_get run i ≡ Some event → IsFirstOfKey run i → keys_of (take i run) ++ (instance_of event).key ∷ [] ≡ keys_of (take (i + 1) run)
key_is_new same run i event at first =
    let test : Event → Bool = λ e. equal_values (instance_of e).key (instance_of event).key in
    keys_next same run i event false at (list_any_none test (take i run) (λ k d within.
    let e = get_or (take i run) k d in
    let (j, before, is) = early_index run i e (member_at (take i run) k e (slice_get-get_or (take i run) k d within)) in
    ⊎_elim
    (λ is_yes. absurd (first event at j e before is ((same (instance_of e).key (instance_of event).key).0 is_yes)))
    (λ is_no. is_no)
    (cases_Bool (test e))))

-- and any other event adds none
pub key_is_old : EqualValuesAreOne → (run : List Event) (i : ℕ) (event : Event) → slice_get run i ≡ Some event → IsRepeatOfKey run i → keys_of (take i run) ≡ keys_of (take (i + 1) run)
key_is_old same run i event at repeat =
    let test : Event → Bool = λ e. equal_values (instance_of e).key (instance_of event).key in
    let old = repeat event at in
    let (k, within, is) = early_member run old.earlier i old.other old.at old.before in
    keys_next same run i event true at (list_any-from_Any test (take i run) (k, old.other, within, is, (same (instance_of old.other).key (instance_of event).key).1 old.same))

-- the event that is read at a position of the run
pub event_at : (run shown : List Event) (i : ℕ) (e : Event) → shown ≡ run → i < length shown → e ≡ get_or shown i e → slice_get run i ≡ Some e
event_at run shown i e same within is = subst (λ es. slice_get es i ≡ Some e) same (slice_get-get_or shown i e within ∙ ap Some (sym is))

-- each key of a run has a value for each key parameter
pub key_lengths : (x : Expanded) (run : List Event) → IsRun x run → All (λ key. length key ≡ length x.keys) (keys_of run)
key_lengths x [] fits = All-nil (λ (key : List Value). length key ≡ length x.keys)
key_lengths x (e ∷ run) fits =
    let P : List Value → Type 0 = λ key. length key ≡ length x.keys in
    let R : Event → Type 0 = λ event. Fits x (instance_of event) in
    let others = key_lengths x run (All-tail R e run fits) in
    All-cons P (instance_of e).key _ (All-head R e run fits).key_length
    (All-filter (λ key. not (equal_values (instance_of e).key key)) P (keys_of run) others)
