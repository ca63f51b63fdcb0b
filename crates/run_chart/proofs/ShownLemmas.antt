-- What the strokes of a run show.
use Rattle.std.proofs.Common.{◌≡◌, ◌==◌, ◌&&◌, ◌||◌, ℕ, zero, suc, ◌+◌, Bool, true, false, List, [], ◌∷◌, ◌++◌, Option, None, Some, refl, sym, ap, inl, inr, ◌∙◌, subst, arith, Contains}
use Rattle.std.specs.Prelude.{slice_get}
use Rattle.std.specs.List.{enumerate_from, filter_map, flat_map, list_any, position}
use Rattle.std.proofs.lemmas.Bool.{false≢true}
use Rattle.std.proofs.lemmas.Bool.Decides.{Decides-eqb}
use Rattle.std.proofs.lemmas.List.Elements.{Contains-append_cases, filter_map-append}
use Rattle.std.proofs.lemmas.List.Quantifiers.{position-Some}
use Rattle.std.proofs.lemmas.Option.{slice_get-get_or}
use Rattle.list_base.proofs.Members.{cons_cases, here, nowhere, only, there}
use Rattle.bspl_types.specs.declared.event.Event.{Event}
use Rattle.bspl_types.specs.declared.event.Event.TheVariants.{Emit, Receive}
use Rattle.bspl_types.specs.declared.event.Instance.{Instance}
use Rattle.bspl_types.specs.declared.expanded.Expanded.{Expanded}
use Rattle.bspl_types.specs.Equality.{equal_values_decides}
use Rattle.bspl_types.specs.Expansion.{message_of}
use Rattle.bspl_types.specs.History.{role_of}
use Rattle.bspl_types.specs.Value.{equal_values}
use Rattle.run_chart.specs.Laws.{StubIsMissing, JoinsInstance, marked}
use Rattle.run_chart.specs.Strokes.{Arrow, Mark, Stub, arrow_from, is_emission_of, is_reception_of, same_instance, strokes, strokes_at, stub_from}

-- an event has one mark
marks_at : (x : Expanded) (run : List Event) (event : ℕ × Event) → filter_map marked (strokes_at x run event) ≡ event ∷ []
marks_at x run (k, Emit i) =
    elim (list_any (is_reception_of i) run) as (λ b. filter_map marked (stub_from (message_of x i.message) k b ++ Mark k (role_of x (Emit i)) (Emit i) ∷ []) ≡ (k, Emit i) ∷ []) [ true ↦ refl | false ↦ refl ]
marks_at x run (k, Receive i) =
    elim (position (is_emission_of i) run) as (λ o. filter_map marked (arrow_from (message_of x i.message) k o ++ Mark k (role_of x (Receive i)) (Receive i) ∷ []) ≡ (k, Receive i) ∷ []) [ None ↦ refl | Some sent ↦ refl ]

-- and so have all
pub marks_each : (x : Expanded) (run : List Event) (events : List (ℕ × Event)) → filter_map marked (flat_map (strokes_at x run) events) ≡ events
marks_each x run [] = refl
marks_each x run (event ∷ events) =
    filter_map-append marked (strokes_at x run event) (flat_map (strokes_at x run) events)
    ∙ ap (λ (marks : List (ℕ × Event)). marks ++ filter_map marked (flat_map (strokes_at x run) events)) (marks_at x run event)
    ∙ ap (λ (marks : List (ℕ × Event)). event ∷ marks) (marks_each x run events)

-- a member of some of the lists that are joined
pub joined_member : {X A : Type 0} (f : X → List A) (xs : List X) (a : A) → Contains (flat_map f xs) a → (x : X) × Contains xs x × Contains (f x) a
joined_member f [] a among = absurd (nowhere a among)
joined_member f (x ∷ xs) a among =
    elim (Contains-append_cases (f x) (flat_map f xs) a among) [
      | inl one ↦ (x, here x xs, one)
      | inr rest ↦ let found = joined_member f xs a rest in (found.0, there x xs found.0 found.1, found.2)
    ]

-- a numbered item stands at its number
numbered_from : {X : Type 0} (n : ℕ) (xs : List X) (item : ℕ × X) → Contains (enumerate_from n xs) item → (i : ℕ) × (item.0 ≡ n + i) × (slice_get xs i ≡ Some item.1)
numbered_from n [] item among = absurd (nowhere item among)
numbered_from {X} n (x ∷ xs) item among =
    elim (cons_cases (n, x) (enumerate_from (n + 1) xs) item among) [
      | inl is ↦ (zero, sym (ap (λ (pair : ℕ × X). pair.0) is) ∙ omega arith, ap (λ (pair : ℕ × X). Some pair.1) is)
      | inr rest ↦ let found = numbered_from (n + 1) xs item rest in (suc found.0, found.1 ∙ omega arith, found.2)
    ]

-- so it does from 0 on
numbered : {X : Type 0} (xs : List X) (k : ℕ) (x : X) → Contains (enumerate_from 0 xs) (k, x) → slice_get xs k ≡ Some x
numbered xs k x among =
    let found = numbered_from 0 xs (k, x) among in
    let at : found.0 ≡ k = omega (arith, found.1) in
    subst (λ i. slice_get xs i ≡ Some x) at found.2

-- both parts of a test
both_parts : (a b : Bool) → (a && b) ≡ true → (a ≡ true) × (b ≡ true)
both_parts true b both = (refl, both)
both_parts false b both = absurd (false≢true both)

-- instances that pass the test are one
same_is : (i j : Instance) → same_instance i j ≡ true → i ≡ j
same_is i j same =
    let first = both_parts (i.message == j.message) (equal_values i.key j.key && equal_values i.values j.values) same in
    let second = both_parts (equal_values i.key j.key) (equal_values i.values j.values) first.1 in
    let message = (Decides-eqb i.message j.message).0 first.0 in
    let key = (equal_values_decides i.key j.key).0 second.0 in
    let values = (equal_values_decides i.values j.values).0 second.1 in
    λ t. record { message = message t; key = key t; values = values t }

-- and one instance passes it
pub is_same : (i : Instance) → same_instance i i ≡ true
is_same i = rw ((Decides-eqb i.message i.message).1 refl, (equal_values_decides i.key i.key).1 refl, (equal_values_decides i.values i.values).1 refl) refl

-- what passes as an emission of the instance is that
emits_is : (i : Instance) (e : Event) → is_emission_of i e ≡ true → e ≡ Emit i
emits_is i (Emit j) same = ap Emit (same_is j i same)
emits_is i (Receive j) same = absurd (false≢true same)

-- the first emission of an instance
emitted_at : (run : List Event) (i : Instance) (sent : ℕ) → position (is_emission_of i) run ≡ Some sent → slice_get run sent ≡ Some (Emit i)
emitted_at run i sent is =
    let found = position-Some (is_emission_of i) run sent (Emit i) is in
    slice_get-get_or run sent (Emit i) found.0 ∙ ap Some (emits_is i _ found.1)

-- a member that passes makes a test of all true
or_true : (b : Bool) → (b || true) ≡ true
or_true true = refl
or_true false = refl

member_passes : {X : Type 0} (p : X → Bool) (xs : List X) (y : X) → p y ≡ true → Contains xs y → list_any p xs ≡ true
member_passes p [] y passes among = absurd (nowhere y among)
member_passes p (x ∷ xs) y passes among =
    elim (cons_cases x xs y among) [
      | inl is ↦ ap (λ (b : Bool). b || list_any p xs) (ap p is ∙ passes)
      | inr rest ↦ ap (λ (b : Bool). p x || b) (member_passes p xs y passes rest) ∙ or_true (p x)
    ]

-- an arrow is that of a reception
arrow_of : (x : Expanded) (run : List Event) (k : ℕ) (e : Event) (sent sender received receiver : ℕ) → slice_get run k ≡ Some e → Contains (strokes_at x run (k, e)) (Arrow sent sender received receiver) → JoinsInstance x run sent sender received receiver
arrow_of x run k (Emit i) sent sender received receiver at among =
    let arrow = Arrow sent sender received receiver in
    let stub = stub_from (message_of x i.message) k in
    let mark = Mark k (role_of x (Emit i)) (Emit i) in
    let none : (b : Bool) → Contains (stub b) arrow → ⊥ = λ b. elim b as (λ t. Contains (stub t) arrow → ⊥) [
      | true ↦ λ there. nowhere arrow there
      | false ↦ λ there. let is = only (Stub k (message_of x i.message).sender (message_of x i.message).receiver) arrow there in cc
    ] in
    elim (Contains-append_cases (stub (list_any (is_reception_of i) run)) (mark ∷ []) arrow among) [
      | inl there ↦ absurd (none _ there)
      | inr there ↦ let is = only mark arrow there in absurd (cc)
    ]
arrow_of x run k (Receive i) sent sender received receiver at among =
    let arrow = Arrow sent sender received receiver in
    let m = message_of x i.message in
    let mark = Mark k (role_of x (Receive i)) (Receive i) in
    elim (Contains-append_cases (arrow_from m k (position (is_emission_of i) run)) (mark ∷ []) arrow among) [
      | inl there ↦ (elim (position (is_emission_of i) run) as (λ o. position (is_emission_of i) run ≡ o → Contains (arrow_from m k o) arrow → JoinsInstance x run sent sender received receiver) [
        | None ↦ λ first none. absurd (nowhere arrow none)
        | Some index ↦ λ first one.
            let is = only (Arrow index m.sender k m.receiver) arrow one in
            record {
              instance = i;
              emission = subst (λ n. slice_get run n ≡ Some (Emit i)) (cc) (emitted_at run i index first);
              reception = subst (λ n. slice_get run n ≡ Some (Receive i)) (cc) at;
              sender_is = cc;
              receiver_is = cc;
            }
      ]) refl there
      | inr there ↦ let is = only mark arrow there in absurd (cc)
    ]

-- each arrow of a chart
pub arrow_shown : (x : Expanded) (run : List Event) (sent sender received receiver : ℕ) → Contains (strokes x run) (Arrow sent sender received receiver) → JoinsInstance x run sent sender received receiver
arrow_shown x run sent sender received receiver among =
    let found = joined_member (strokes_at x run) (enumerate_from 0 run) (Arrow sent sender received receiver) among in
    arrow_of x run found.0.0 found.0.1 sent sender received receiver (numbered run found.0.0 found.0.1 found.1) found.2

-- a stub is that of an emission without a reception
stub_of : (x : Expanded) (run : List Event) (k : ℕ) (e : Event) (sent sender receiver : ℕ) → slice_get run k ≡ Some e → Contains (strokes_at x run (k, e)) (Stub sent sender receiver) → StubIsMissing x run sent sender receiver
stub_of x run k (Emit i) sent sender receiver at among =
    let stub = Stub sent sender receiver in
    let m = message_of x i.message in
    let mark = Mark k (role_of x (Emit i)) (Emit i) in
    elim (Contains-append_cases (stub_from m k (list_any (is_reception_of i) run)) (mark ∷ []) stub among) [
      | inl there ↦ (elim (list_any (is_reception_of i) run) as (λ b. list_any (is_reception_of i) run ≡ b → Contains (stub_from m k b) stub → StubIsMissing x run sent sender receiver) [
        | true ↦ λ received none. absurd (nowhere stub none)
        | false ↦ λ missing one.
            let is = only (Stub k m.sender m.receiver) stub one in
            record {
              instance = i;
              emission = subst (λ n. slice_get run n ≡ Some (Emit i)) (cc) at;
              not_received = λ received. false≢true (sym missing ∙ member_passes (is_reception_of i) run (Receive i) (is_same i) received);
              sender_is = cc;
              receiver_is = cc;
            }
      ]) refl there
      | inr there ↦ let is = only mark stub there in absurd (cc)
    ]
stub_of x run k (Receive i) sent sender receiver at among =
    let stub = Stub sent sender receiver in
    let m = message_of x i.message in
    let mark = Mark k (role_of x (Receive i)) (Receive i) in
    let none : (o : Option ℕ) → Contains (arrow_from m k o) stub → ⊥ = λ o. elim o as (λ p. Contains (arrow_from m k p) stub → ⊥) [
      | None ↦ λ there. nowhere stub there
      | Some index ↦ λ there. let is = only (Arrow index m.sender k m.receiver) stub there in cc
    ] in
    elim (Contains-append_cases (arrow_from m k (position (is_emission_of i) run)) (mark ∷ []) stub among) [
      | inl there ↦ absurd (none _ there)
      | inr there ↦ let is = only mark stub there in absurd (cc)
    ]

-- each stub of a chart
pub stub_shown : (x : Expanded) (run : List Event) (sent sender receiver : ℕ) → Contains (strokes x run) (Stub sent sender receiver) → StubIsMissing x run sent sender receiver
stub_shown x run sent sender receiver among =
    let found = joined_member (strokes_at x run) (enumerate_from 0 run) (Stub sent sender receiver) among in
    stub_of x run found.0.0 found.0.1 sent sender receiver (numbered run found.0.0 found.0.1 found.1) found.2
