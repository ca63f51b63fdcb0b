-- From an unfinished role to the sender that its next event waits for, and on, until a role comes
-- again.
use Rattle.std.proofs.Common.{◌≡◌, ◌≢◌, ℕ, zero, suc, ◌+◌, ◌-◌, ◌<◌, ◌≤◌, List, [], ◌∷◌, ◌++◌, length, map, drop, get_or, Some, inl, inr, refl, sym, ap, ◌∙◌, subst, arith, All, Contains, length-drop}
use Rattle.std.specs.Prelude.{slice_get}
use Rattle.std.specs.List.{AllPairs, range_with_len}
use Rattle.std.proofs.lemmas.Bool.{cases_lt}
use Rattle.std.proofs.lemmas.List.{drop_more, get_or-drop, length-map, length_push}
use Rattle.std.proofs.lemmas.List.Elements.{All-map, All-push}
use Rattle.std.proofs.lemmas.List.FromFn.{get_or-range_with_len, length-range_with_len}
use Rattle.std.proofs.lemmas.List.Quantifiers.{all_pairs_push}
use Rattle.std.proofs.lemmas.Option.{get_or_from_slice_get, slice_get_within}
use Rattle.list_base.proofs.Mapped.{mapped_pairs}
use Rattle.list_base.proofs.Pigeonhole.{few_distinct}
use Rattle.bspl_types.specs.declared.event.Event.{Event}
use Rattle.bspl_types.specs.declared.event.Event.TheVariants.{Emit, Receive}
use Rattle.bspl_types.specs.declared.event.Instance.{Instance}
use Rattle.bspl_types.specs.declared.expanded.Expanded.{Expanded}
use Rattle.bspl_types.specs.Admission.{IsAdmitted}
use Rattle.bspl_types.specs.Expansion.{message_of, no_message}
use Rattle.bspl_types.specs.History.{instance_of}
use Rattle.run_index.specs.FirstEmission.{IsFirstEmission}
use Rattle.history_audit.specs.declared.audit_no.Point.{Point}
use Rattle.history_audit.specs.BadPlace.{AllMayHappen}
use Rattle.history_audit.specs.Cycle.{WaitInTurn, WaitsBehind}
use Rattle.history_audit.specs.Histories.{AreHistories, events_at}
use Rattle.history_audit.specs.inner.Merging.{cursor_at, IsHeldBack, IsStuck, IsUnfinished}
use Rattle.history_audit.specs.inner.Rings.{HasRoleAt, IsRing}
use Rattle.history_audit.proofs.PlaceLemmas.{fits_at, own_at, role_within}
use Rattle.history_audit.proofs.RingLemmas.{turn_drop, turn_join}
use Rattle.history_audit.proofs.WaitLemmas.{emitted_within}

-- the role's next event, as a point
abbrev pub point_of : List ℕ → ℕ → Point
point_of cursors role = record { role = role; place = cursor_at cursors role + 1 }

-- the roles on the path so far are unfinished, distinct, and each waits for the next
pub record IsPath (x : Expanded) (histories : List (List Event)) (cursors : List ℕ) (path : List Point) (role : ℕ) : Type 0 where
  pub unfinished : IsUnfinished histories cursors role
  pub in_turn : WaitInTurn x histories path (point_of cursors role)
  pub roles : AllPairs (λ p q. p.role ≢ q.role) path
  pub known : All (λ p. p.role < length histories) path
  pub next : All (λ p. p ≡ point_of cursors p.role) path

-- the role's next event waits for that of an unfinished role
pub record WaitsFor (x : Expanded) (histories : List (List Event)) (cursors : List ℕ) (role sender : ℕ) : Type 0 where
  pub behind : WaitsBehind x histories (point_of cursors role) (point_of cursors sender)
  pub unfinished : IsUnfinished histories cursors sender

-- the numbers below one are in their list
in_range : (n k : ℕ) → k < n → Contains (range_with_len 0 n) k
in_range n k less = (k, omega (arith, less, length-range_with_len 0 n), get_or-range_with_len 0 n k k less ∙ omega arith)

-- a point does not wait behind itself: a message goes to another role
not_itself : (x : Expanded) (histories : List (List Event)) (p : Point) → IsAdmitted x → AreHistories x histories → WaitsBehind x histories p p → ⊥
not_itself x histories p admitted are waits =
    let fits = fits_at x histories p.role waits.receipt.index (Receive waits.instance) are waits.receipt.at in
    let receiver : (message_of x waits.instance.message).receiver ≡ p.role = own_at x histories p.role waits.receipt.index (Receive waits.instance) are waits.receipt.at in
    (admitted.each_message waits.instance.message no_message fits.known).two_roles (waits.sender ∙ sym receiver)

module _ (x : Expanded) (histories : List (List Event)) (cursors : List ℕ) (admitted : IsAdmitted x) (are : AreHistories x histories) (sent : AllMayHappen x histories) (count : length cursors ≡ length histories) (stuck : (role : ℕ) → IsStuck x histories cursors role) where
  -- at the start
  pub path_start : (role : ℕ) → IsUnfinished histories cursors role → IsPath x histories cursors [] role
  path_start role unfinished =
      record {
        unfinished = unfinished;
        in_turn = tt;
        roles = λ i j d less within. absurd (omega (arith, within));
        known = λ k d within. absurd (omega (arith, within));
        next = λ k d within. absurd (omega (arith, within));
      }

  -- an unfinished role has a next event
  pub next_event : (role : ℕ) → IsUnfinished histories cursors role → (e : Event) × (slice_get (events_at histories role) (cursor_at cursors role) ≡ Some e)
  next_event role unfinished = some (events_at histories role) (cursor_at cursors role) unfinished.left
    where
      some : (events : List Event) (k : ℕ) → k < length events → (e : Event) × (slice_get events k ≡ Some e)
      some [] k within = absurd (omega (arith, within))
      some (e ∷ events) zero within = (e, refl)
      some (e ∷ events) (suc k) within = some events k (omega (arith, within))

  -- and is in the list
  pub unfinished_within : (role : ℕ) → IsUnfinished histories cursors role → role < length histories
  unfinished_within role unfinished = let (e, at) = next_event role unfinished in role_within histories role (cursor_at cursors role) e at

  -- an emission is not held back
  never_held : (i : Instance) → IsHeldBack x histories cursors (Emit i) → ⊥
  never_held i held = emission_is_none i held.instance held.receipt
    where
      emission_is_none : (j k : Instance) → Emit j ≡ Receive k → ⊥
      emission_is_none j k is = absurd (cc)

  -- it waits for an unfinished role
  pub waits_for : (role sender : ℕ) (e : Event) → slice_get (events_at histories role) (cursor_at cursors role) ≡ Some e → sender ≡ (message_of x (instance_of e).message).sender → WaitsFor x histories cursors role sender
  waits_for role sender e at sender_is =
      let held = stuck role e at in
      let i : Instance = held.instance in
      let receipt : slice_get (events_at histories role) (cursor_at cursors role) ≡ Some (Receive i) = at ∙ ap Some held.receipt in
      let is : (message_of x i.message).sender ≡ sender = sym (sender_is ∙ ap (λ f. (message_of x (instance_of f).message).sender) held.receipt) in
      let first = subst (λ s. IsFirstEmission (events_at histories s) i held.awaited) is held.first in
      let among : Contains (events_at histories sender) (Emit i) = subst (λ s. Contains (events_at histories s) (Emit i)) is (sent role (cursor_at cursors role) (Receive i) receipt) in
      let within : held.awaited < length (events_at histories sender) = emitted_within (events_at histories sender) i held.awaited first among in
      let later : cursor_at cursors sender ≤ held.awaited = subst (λ s. cursor_at cursors s ≤ held.awaited) is held.later in
      let unfinished : IsUnfinished histories cursors sender = record { left = omega (arith, later, within) } in
      let before : cursor_at cursors sender < held.awaited = elim (cases_lt (cursor_at cursors sender) held.awaited) [
        | inl less ↦ less
        | inr not ↦ absurd (never_held i (stuck sender (Emit i) (ap (slice_get (events_at histories sender)) (omega (arith, later, not)) ∙ first.emitted within)))
      ] in
      record {
        behind = record {
          instance = i;
          receipt = record { index = cursor_at cursors role; place_is = refl; at = receipt };
          sender = is;
          awaited = held.awaited;
          first = first;
          emitted = within;
          after = omega (arith, before);
        };
        unfinished = unfinished;
      }

  -- one role more on the path
  pub path_more : (path : List Point) (role sender : ℕ) → IsPath x histories cursors path role → All (λ p. p.role ≢ role) path → WaitsFor x histories cursors role sender → IsPath x histories cursors (path ++ point_of cursors role ∷ []) sender
  path_more path role sender so_far other waits =
      record {
        unfinished = waits.unfinished;
        in_turn = turn_join x histories path (point_of cursors role ∷ []) (point_of cursors sender) so_far.in_turn (waits.behind, tt);
        roles = all_pairs_push (λ p q. p.role ≢ q.role) path (point_of cursors role) so_far.roles other;
        known = All-push (λ p. p.role < length histories) path (point_of cursors role) so_far.known (unfinished_within role so_far.unfinished);
        next = All-push (λ p. p ≡ point_of cursors p.role) path (point_of cursors role) so_far.next refl;
      }

  -- a path has no more roles than there are
  few : (path : List Point) → AllPairs (λ p q. p.role ≢ q.role) path → All (λ p. p.role < length histories) path → length path ≤ length histories
  few path roles known =
      let fewer = few_distinct (map (λ (p : Point). p.role) path) (range_with_len 0 (length histories)) (mapped_pairs ◌≢◌ (λ (p : Point). p.role) path roles)
      (All-map (Contains (range_with_len 0 (length histories))) (λ (p : Point). p.role) path (λ k d within. in_range (length histories) (get_or path k d).role (known k d within))) in
      omega (arith, fewer, length-map path (λ (p : Point). p.role), length-range_with_len 0 (length histories))

  -- so one more role leaves fewer
  pub fewer_left : (path : List Point) (role sender : ℕ) → IsPath x histories cursors (path ++ point_of cursors role ∷ []) sender → length histories - length (path ++ point_of cursors role ∷ []) < length histories - length path
  fewer_left path role sender longer =
      let most = few (path ++ point_of cursors role ∷ []) longer.roles longer.known in
      omega (arith, most, length_push path (point_of cursors role))

  -- a role that comes again closes the circle
  pub ring_closed : (path : List Point) (role index : ℕ) → IsPath x histories cursors path role → HasRoleAt path role index → IsRing x histories (drop index path)
  ring_closed path role index so_far found =
      let p : Point = found.point in
      let within : index < length path = slice_get_within path index p found.at in
      let here : get_or path index p ≡ p = get_or_from_slice_get path index p p found.at in
      let rest : List Point = drop (index + 1) path in
      let back : drop index path ≡ p ∷ rest = drop_more path index p within ∙ ap (λ q. q ∷ rest) here in
      let is : p ≡ point_of cursors role = subst (λ q. q ≡ point_of cursors q.role) here (so_far.next index p within) ∙ ap (point_of cursors) found.same in
      let turn : WaitInTurn x histories (p ∷ rest) p = subst (WaitInTurn x histories (p ∷ rest)) (sym is) (subst (λ ps. WaitInTurn x histories ps (point_of cursors role)) back (turn_drop x histories path index (point_of cursors role) so_far.in_turn)) in
      record {
        first = p;
        others = rest;
        split = back;
        two = not_alone p rest turn;
        roles = λ i j d less inside.
            let later : index + j < length path = omega (arith, inside, length-drop index path) in
            λ same. so_far.roles (index + i) (index + j) d (omega (arith, less)) later (ap (λ (q : Point). q.role) (sym (get_or-drop index path i d)) ∙ same ∙ ap (λ (q : Point). q.role) (get_or-drop index path j d));
        in_turn = subst (λ ps. WaitInTurn x histories ps p) (sym back) turn;
      }
    where
      not_alone : (p : Point) (rest : List Point) → WaitInTurn x histories (p ∷ rest) p → 0 < length rest
      not_alone p [] turn = absurd (not_itself x histories p admitted are turn.0)
      not_alone p (q ∷ rest) turn = omega arith
