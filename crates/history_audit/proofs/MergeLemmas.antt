-- One more event is merged, and what holds when none may come.
use Rattle.std.proofs.Common.{◌≡◌, ℕ, zero, suc, ◌+◌, ◌-◌, ◌<◌, ◌≤◌, true, false, List, [], ◌∷◌, ◌++◌, length, take, set, replicate, Some, inl, inr, refl, sym, ap, ◌∙◌, subst, arith, Contains}
use Rattle.std.specs.Prelude.{◌==◌, ◌⊎◌, Bool, MatchBool, nat_lt, slice_get}
use Rattle.std.proofs.lemmas.Bool.{cases_Bool, cases_eq, cases_lt, cond-false, cond-true, ltb-false, ltb-true}
use Rattle.std.proofs.lemmas.Bool.Decides.{Decides-eqb}
use Rattle.std.proofs.lemmas.List.{append-nil, get_or-set_other, get_or-set_same, get_or_append_left, get_or_push, length-set, length_push, take-append-le, take_all, take_at, take_more}
use Rattle.std.proofs.lemmas.List.Elements.{All-push, filter-append}
use Rattle.std.proofs.lemmas.Option.{get_or_from_slice_get, same_Some, slice_get-get_or, slice_get_within}
use Rattle.list_base.proofs.Filtered.{filtered_member}
use Rattle.list_base.proofs.Membership.{early_member}
use Rattle.bspl_types.specs.declared.event.Event.{Event}
use Rattle.bspl_types.specs.declared.event.Event.TheVariants.{Emit, Receive}
use Rattle.bspl_types.specs.declared.event.Instance.{Instance}
use Rattle.bspl_types.specs.declared.expanded.Expanded.{Expanded}
use Rattle.bspl_types.specs.Expansion.{message_of}
use Rattle.bspl_types.specs.History.{history_of, instance_of, role_of}
use Rattle.bspl_types.specs.Instance.{Fits}
use Rattle.bspl_types.specs.Knowledge.{IsEnabled}
use Rattle.enactment_model.specs.Laws.{LegalByPositions}
use Rattle.enactment_model.specs.Legal.{IsLegalRun, MayFollow}
use Rattle.history_audit.specs.BadPlace.{AllMayHappen, MayHappen}
use Rattle.history_audit.specs.Histories.{AreHistories, Explains, events_at}
use Rattle.history_audit.specs.inner.Merging.{AreWithin, cursor_at, IsHeldBack, IsMerging, IsReady, IsStuck, IsUnfinished, MayCome}
use Rattle.history_audit.specs.inner.Waits.{IsWait}
use Rattle.history_audit.proofs.PlaceLemmas.{fits_at, own_at, role_within}

-- a role's history with one more event of its own
push_own : (x : Expanded) (role : ℕ) (run : List Event) (e : Event) → role_of x e ≡ role → history_of x role (run ++ e ∷ []) ≡ history_of x role run ++ e ∷ []
push_own x role run e own =
    filter-append (λ f. role_of x f == role) run (e ∷ []) ∙ ap (λ es. history_of x role run ++ es) (cond-true (role_of x e == role) (e ∷ []) [] ((Decides-eqb (role_of x e) role).1 own))

-- with one of another role
push_other : (x : Expanded) (role : ℕ) (run : List Event) (e : Event) → (role_of x e ≡ role → ⊥) → history_of x role (run ++ e ∷ []) ≡ history_of x role run
push_other x role run e other =
    filter-append (λ f. role_of x f == role) run (e ∷ []) ∙ ap (λ es. history_of x role run ++ es) (cond-false (role_of x e == role) (e ∷ []) [] (not_own (role_of x e == role) refl)) ∙ append-nil (history_of x role run)
  where
    not_own : (b : Bool) → (role_of x e == role) ≡ b → (role_of x e == role) ≡ false
    not_own true is = absurd (other ((Decides-eqb (role_of x e) role).0 is))
    not_own false is = is

-- an event that may follow a legal run makes it longer
legal_push : LegalByPositions → (x : Expanded) (run : List Event) (e : Event) → IsLegalRun x run → Fits x (instance_of e) → MayFollow x run e → IsLegalRun x (run ++ e ∷ [])
legal_push law x run e legal fits may =
    let longer : List Event = run ++ e ∷ [] in
    record {
      fits = All-push (λ f. Fits x (instance_of f)) run e legal.fits fits;
      legal = (law x longer).1 (λ k f at. elim (cases_lt k (length run)) [
        | inl before ↦
            let there : slice_get run k ≡ Some f = slice_get-get_or run k f before ∙ ap Some (sym (get_or_append_left run (e ∷ []) f k before) ∙ get_or_from_slice_get longer k f f at) in
            subst (λ es. MayFollow x es f) (sym (take-append-le k run (e ∷ []) (omega (arith, before)))) ((law x run).0 legal.legal k f there)
        | inr late ↦
            let last : length run ≡ k = omega (arith, late, slice_get_within longer k f at, length_push run e) in
            let is : e ≡ f = sym (get_or_push run e f k last) ∙ get_or_from_slice_get longer k f f at in
            subst (λ es. MayFollow x es f) (sym (take_at run (e ∷ []) k last)) (subst (MayFollow x run) is may)
      ]);
    }

-- the next event of a role may follow the run that is merged
may_follow_merged : (x : Expanded) (histories : List (List Event)) (cursors : List ℕ) (run : List Event) (role : ℕ) (e : Event) → IsMerging x histories cursors run → role_of x e ≡ role → MayHappen x histories (take (cursor_at cursors role) (events_at histories role)) e → MayCome x histories cursors e → MayFollow x run e
may_follow_merged x histories cursors run role (Emit i) merging own may come =
    subst (λ r. IsEnabled x (history_of x r run) i) (sym own) (subst (λ es. IsEnabled x es i) (sym (merging.each role)) may)
may_follow_merged x histories cursors run role (Receive i) merging own may come =
    let sender : ℕ = (message_of x i.message).sender in
    (filtered_member (λ f. role_of x f == sender) run (Emit i) (subst (λ es. Contains es (Emit i)) (sym (merging.each sender)) come)).0

module _ (x : Expanded) (histories : List (List Event)) (cursors : List ℕ) (run : List Event) (role : ℕ) (e : Event) (are : AreHistories x histories) (merging : IsMerging x histories cursors run) (at : slice_get (events_at histories role) (cursor_at cursors role) ≡ Some e) where
  -- the role's cursor one event on
  abbrev pub advanced : List ℕ
  advanced = set cursors role (cursor_at cursors role + 1)

  -- it is there
  has_cursor : role < length cursors
  has_cursor = let within = role_within histories role (cursor_at cursors role) e at in omega (arith, within, merging.count)

  -- a role's cursor is the one that moved, or as it was
  moved : (other : ℕ) → ((role ≡ other) × (cursor_at advanced other ≡ cursor_at cursors role + 1)) ⊎ ((role ≡ other → ⊥) × (cursor_at advanced other ≡ cursor_at cursors other))
  moved other = elim (cases_eq other role) [
    | inl same ↦ inl (sym same, ap (cursor_at advanced) same ∙ get_or-set_same cursors role (cursor_at cursors role + 1) 0 has_cursor)
    | inr differs ↦ inr ((λ same. differs (sym same)), get_or-set_other cursors role other (cursor_at cursors role + 1) 0 differs)
  ]

  -- one event more is merged
  pub merged_more : LegalByPositions → AllMayHappen x histories → MayCome x histories cursors e → IsMerging x histories advanced (run ++ e ∷ [])
  merged_more law all come =
      let own : role_of x e ≡ role = own_at x histories role (cursor_at cursors role) e are at in
      let within : cursor_at cursors role < length (events_at histories role) = slice_get_within (events_at histories role) (cursor_at cursors role) e at in
      record {
        count = length-set cursors role (cursor_at cursors role + 1) ∙ merging.count;
        legal = legal_push law x run e merging.legal (fits_at x histories role (cursor_at cursors role) e are at)
            (may_follow_merged x histories cursors run role e merging own (all role (cursor_at cursors role) e at) come);
        each = λ other. elim (moved other) [
          | inl same ↦
              let one : history_of x role (run ++ e ∷ []) ≡ take (cursor_at cursors role + 1) (events_at histories role) =
              push_own x role run e own ∙ ap (λ es. es ++ e ∷ []) (merging.each role)
              ∙ sym (take_more (events_at histories role) (cursor_at cursors role) e within ∙ ap (λ f. take (cursor_at cursors role) (events_at histories role) ++ f ∷ []) (get_or_from_slice_get (events_at histories role) (cursor_at cursors role) e e at)) in
              subst (λ r. history_of x r (run ++ e ∷ []) ≡ take (cursor_at cursors role + 1) (events_at histories r)) same.0 one ∙ ap (λ n. take n (events_at histories other)) (sym same.1)
          | inr still ↦ push_other x other run e (λ is. still.0 (sym own ∙ is)) ∙ merging.each other ∙ ap (λ n. take n (events_at histories other)) (sym still.1)
        ];
        within = λ other. elim (moved other) [
          | inl same ↦ subst (λ n. n ≤ length (events_at histories other)) (sym same.1) (subst (λ r. cursor_at cursors role + 1 ≤ length (events_at histories r)) same.0 (omega (arith, within)))
          | inr still ↦ subst (λ n. n ≤ length (events_at histories other)) (sym still.1) (merging.within other)
        ];
      }

-- at the end of all histories the run explains them
pub merged_all : (x : Expanded) (histories : List (List Event)) (cursors : List ℕ) (run : List Event) → IsMerging x histories cursors run → ((role : ℕ) → ¬ IsUnfinished histories cursors role) → Explains x run histories
merged_all x histories cursors run merging finished =
    record {
      legal = merging.legal;
      each = λ role. merging.each role ∙ take_all (cursor_at cursors role) (events_at histories role) (elim (cases_lt (cursor_at cursors role) (length (events_at histories role))) [
        | inl left ↦ absurd (finished role (record { left = left }))
        | inr ended ↦ ended
      ]);
    }

-- nothing is merged at first
pub merged_none : (x : Expanded) (histories : List (List Event)) (cursors : List ℕ) (run : List Event) → cursors ≡ replicate (length histories) 0 → run ≡ [] → IsMerging x histories cursors run
merged_none x histories cursors run start empty =
    let zero_at : (role : ℕ) → cursor_at cursors role ≡ 0 = λ role. ap (λ cs. cursor_at cs role) start ∙ all_zero (length histories) role in
    record {
      count = ap length start ∙ count_zeros (length histories);
      legal = subst (IsLegalRun x) (sym empty) (record { fits = λ k d within. absurd (omega (arith, within)); legal = tt });
      each = λ role. ap (history_of x role) empty ∙ ap (λ n. take n (events_at histories role)) (sym (zero_at role));
      within = λ role. omega (arith, zero_at role);
    }
  where
    all_zero : (n role : ℕ) → cursor_at (replicate n 0) role ≡ 0
    all_zero zero role = refl
    all_zero (suc n) zero = refl
    all_zero (suc n) (suc role) = all_zero n role

    count_zeros : (n : ℕ) → length {A = ℕ} (replicate n 0) ≡ n
    count_zeros zero = refl
    count_zeros (suc n) = ap suc (count_zeros n)

-- how many events come after the cursors
pub events_left : List (List Event) → List ℕ → ℕ
events_left [] cursors = 0
events_left (history ∷ histories) [] = 0
events_left (history ∷ histories) (c ∷ cursors) = (length history - c) + events_left histories cursors

-- one less with a cursor one event on
pub one_less : (histories : List (List Event)) (cursors : List ℕ) (role : ℕ) → role < length cursors → cursor_at cursors role < length (events_at histories role) → events_left histories (set cursors role (cursor_at cursors role + 1)) < events_left histories cursors
unfolding events_left
one_less [] cursors role within more = absurd (omega (arith, more))
one_less (history ∷ histories) [] role within more = absurd (omega (arith, within))
one_less (history ∷ histories) (c ∷ cursors) zero within more = omega (arith, more)
one_less (history ∷ histories) (c ∷ cursors) (suc role) within more =
    let rest = one_less histories cursors role (omega (arith, within)) more in omega (arith, rest)

-- a receipt may come exactly if its wait is below the sender's cursor
pub come_or_held : (x : Expanded) (histories : List (List Event)) (cursors : List ℕ) (i : Instance) (wait cursor : ℕ) → cursor ≡ cursor_at cursors (message_of x i.message).sender → IsWait x histories (Receive i) wait → AreWithin histories cursors
    → MatchBool (nat_lt wait cursor) (MayCome x histories cursors (Receive i)) (IsHeldBack x histories cursors (Receive i))
come_or_held x histories cursors i wait cursor is first within =
    let sender : ℕ = (message_of x i.message).sender in
    let most : cursor_at cursors sender ≤ length (events_at histories sender) = within sender in
    elim (cases_Bool (nat_lt wait cursor)) [
      | inl below ↦
          let less : wait < cursor_at cursors sender = subst (λ n. wait < n) is (ltb-true wait cursor below) in
          rw below (early_member (events_at histories sender) wait (cursor_at cursors sender) (Emit i) (first.emitted (omega (arith, most, less))) less)
      | inr above ↦
          let later : cursor_at cursors sender ≤ wait = subst (λ n. n ≤ wait) is (ltb-false wait cursor above) in
          rw above (record { instance = i; receipt = refl; awaited = wait; first = first; later = later })
    ]

-- a role whose next event may come is ready, and else it is stuck
pub ready_or_stuck : (x : Expanded) (histories : List (List Event)) (cursors : List ℕ) (role : ℕ) (e : Event) (b : Bool) → slice_get (events_at histories role) (cursor_at cursors role) ≡ Some e → MatchBool b (MayCome x histories cursors e) (IsHeldBack x histories cursors e) → MatchBool b (IsReady x histories cursors role) (IsStuck x histories cursors role)
ready_or_stuck x histories cursors role e true at may = record { event = e; next = at; may = may }
ready_or_stuck x histories cursors role e false at held = λ f there. subst (IsHeldBack x histories cursors) (same_Some e f (sym at ∙ there)) held

-- a role at its end is stuck
pub stuck_at_end : (x : Expanded) (histories : List (List Event)) (cursors : List ℕ) (role : ℕ) → length (events_at histories role) ≤ cursor_at cursors role → IsStuck x histories cursors role
stuck_at_end x histories cursors role is_end e at = absurd (omega (arith, is_end, slice_get_within (events_at histories role) (cursor_at cursors role) e at))

-- a step of the merge, as the code takes it
module _ (x : Expanded) (histories : List (List Event)) (cursors : List ℕ) (run : List Event) (role index : ℕ) (history : List Event) (e : Event) (are : AreHistories x histories) (merging : IsMerging x histories cursors run) (ready : IsReady x histories cursors role) (is_index : slice_get cursors role ≡ Some index) (is_history : history ≡ events_at histories role) (at : slice_get history index ≡ Some e) where
  -- the index is the cursor
  index_is : cursor_at cursors role ≡ index
  index_is = get_or_from_slice_get cursors role index 0 is_index

  -- and the event the next one
  next_is : slice_get (events_at histories role) (cursor_at cursors role) ≡ Some e
  next_is = ap (slice_get (events_at histories role)) index_is ∙ ap (λ (es : List Event). slice_get es index) (sym is_history) ∙ at

  -- one event more is merged
  pub step_keeps : LegalByPositions → AllMayHappen x histories → (moved_to : List ℕ) (longer : List Event) → moved_to ≡ set cursors role (index + 1) → longer ≡ run ++ e ∷ [] → IsMerging x histories moved_to longer
  step_keeps law all moved_to longer is_moved is_longer =
      let come : MayCome x histories cursors e = subst (MayCome x histories cursors) (same_Some ready.event e (sym ready.next ∙ next_is)) ready.may in
      subst (λ cs. IsMerging x histories cs longer) (sym (is_moved ∙ ap (λ n. set cursors role (n + 1)) (sym index_is)))
      (subst (IsMerging x histories (set cursors role (cursor_at cursors role + 1))) (sym is_longer) (merged_more x histories cursors run role e are merging next_is law all come))

  -- and one event less is left
  pub step_less : (moved_to : List ℕ) → moved_to ≡ set cursors role (index + 1) → events_left histories moved_to < events_left histories cursors
  step_less moved_to is_moved =
      subst (λ cs. events_left histories cs < events_left histories cursors) (sym (is_moved ∙ ap (λ n. set cursors role (n + 1)) (sym index_is)))
      (one_less histories cursors role (has_cursor x histories cursors run role e are merging next_is) (slice_get_within (events_at histories role) (cursor_at cursors role) e next_is))

-- a role that is ready has a history
pub ready_within : (x : Expanded) (histories : List (List Event)) (cursors : List ℕ) (role : ℕ) → IsReady x histories cursors role → role < length histories
ready_within x histories cursors role ready = role_within histories role (cursor_at cursors role) ready.event ready.next

-- and its next event is before the end
pub ready_before : (x : Expanded) (histories : List (List Event)) (cursors : List ℕ) (role : ℕ) → IsReady x histories cursors role → cursor_at cursors role < length (events_at histories role)
ready_before x histories cursors role ready = slice_get_within (events_at histories role) (cursor_at cursors role) ready.event ready.next
