-- What receipts wait for, and where a history has its first bad place.
use Rattle.std.proofs.Common.{◌≡◌, ℕ, zero, suc, ◌+◌, ◌<◌, ◌≤◌, min, List, [], ◌∷◌, length, take, get_or, Some, inl, inr, refl, sym, ap, ◌∙◌, subst, arith, Contains}
use Rattle.std.specs.Prelude.{MatchOption, Option, None, false, is_some, slice_get}
use Rattle.std.specs.List.{AllZip}
use Rattle.std.proofs.lemmas.Bool.{cases_lt, true≢false}
use Rattle.std.proofs.lemmas.List.Elements.{All-take}
use Rattle.std.proofs.lemmas.Option.{get_or_from_slice_get, slice_get_within}
use Rattle.list_base.proofs.Membership.{index_of, member_at}
use Rattle.bspl_types.specs.declared.event.Event.{Event}
use Rattle.bspl_types.specs.declared.event.Event.TheVariants.{Emit, Receive}
use Rattle.bspl_types.specs.declared.event.Instance.{Instance}
use Rattle.bspl_types.specs.declared.expanded.Expanded.{Expanded}
use Rattle.bspl_types.specs.Expansion.{message_of}
use Rattle.bspl_types.specs.History.{history_of, role_of}
use Rattle.bspl_types.specs.Knowledge.{IsEnabled}
use Rattle.enactment_model.specs.BadEvent.{IsFirstReason, MayNotFollow}
use Rattle.enactment_model.specs.declared.bad_event.Why.{Why}
use Rattle.enactment_model.specs.Legal.{MayFollow}
use Rattle.run_index.specs.FirstDisabled.{IsEnabledAfter, IsFirstDisabled}
use Rattle.run_index.specs.FirstEmission.{IsFirstEmission}
use Rattle.history_audit.specs.BadPlace.{HasNoBadPlace, IsWhy, MayHappen}
use Rattle.history_audit.specs.Histories.{events_at}
use Rattle.history_audit.specs.inner.Places.{AreOwn, IsFirstBad, IsFirstBadOf, IsFirstUnsent}
use Rattle.history_audit.specs.inner.Waits.{AreWaits, HaveWaits, IsSent, IsWait}
use Rattle.history_audit.proofs.PlaceLemmas.{all_at, own_history}

-- an instance that is emitted is first emitted within the history
pub emitted_within : (events : List Event) (i : Instance) (n : ℕ) → IsFirstEmission events i n → Contains events (Emit i) → n < length events
emitted_within events i n first among = elim (cases_lt n (length events)) [
  | inl within ↦ within
  | inr past ↦ let (k, at) = index_of events (Emit i) among in absurd (first.none_before k (omega (arith, past, slice_get_within events k (Emit i) at)) at)
]

-- and one that has such an index is emitted
pub within_emitted : (events : List Event) (i : Instance) (n : ℕ) → IsFirstEmission events i n → n < length events → Contains events (Emit i)
within_emitted events i n first within = member_at events n (Emit i) (first.emitted within)

-- what relates two lists relates their items at one index
zip_at : {A B : Type 0} (R : A → B → Type 0) (xs : List A) (ys : List B) (i : ℕ) (d : A) (e : B) → AllZip R xs ys → i < length xs → R (get_or xs i d) (get_or ys i e)
zip_at R [] ys i d e zipped within = absurd (omega (arith, within))
zip_at R (x ∷ xs) [] i d e zipped within = absurd zipped
zip_at R (x ∷ xs) (y ∷ ys) zero d e zipped within = zipped.0
zip_at R (x ∷ xs) (y ∷ ys) (suc i) d e zipped within = zip_at R xs ys i d e zipped.1 (omega (arith, within))

-- the wait of an event
pub wait_in : (x : Expanded) (histories : List (List Event)) (history : List Event) (waits : List ℕ) (k : ℕ) (e : Event) (d : ℕ) → AreWaits x histories history waits → slice_get history k ≡ Some e → IsWait x histories e (get_or waits k d)
wait_in x histories history waits k e d are at =
    subst (λ f. IsWait x histories f (get_or waits k d)) (get_or_from_slice_get history k e e at)
    (zip_at (IsWait x histories) history waits k e d are (slice_get_within history k e at))

-- the waits of a history
pub waits_at : (x : Expanded) (histories : List (List Event)) (waits : List (List ℕ)) (role : ℕ) (d : List ℕ) → HaveWaits x histories waits → role < length histories → AreWaits x histories (events_at histories role) (get_or waits role d)
waits_at x histories waits role d have within = zip_at (AreWaits x histories) histories waits role [] d have within

-- an emission that is enabled after its role's own events may happen
enabled_may : (x : Expanded) (histories : List (List Event)) (role : ℕ) (before : List Event) (e : Event) → AreOwn x role before → role_of x e ≡ role → IsEnabledAfter x before e → IsSent x histories e → MayHappen x histories before e
enabled_may x histories role before (Emit i) own own_event enabled sent =
    subst (λ es. IsEnabled x es i) (own_history x role before own) (subst (λ r. IsEnabled x (history_of x r before) i) own_event enabled)
enabled_may x histories role before (Receive i) own own_event enabled sent = sent

-- and the other way round
may_enabled : (x : Expanded) (histories : List (List Event)) (role : ℕ) (before : List Event) (e : Event) → AreOwn x role before → role_of x e ≡ role → MayHappen x histories before e → IsEnabledAfter x before e
may_enabled x histories role before (Emit i) own own_event may =
    subst (λ r. IsEnabled x (history_of x r before) i) (sym own_event) (subst (λ es. IsEnabled x es i) (sym (own_history x role before own)) may)
may_enabled x histories role before (Receive i) own own_event may = tt

-- what may happen was sent
may_sent : (x : Expanded) (histories : List (List Event)) (before : List Event) (e : Event) → MayHappen x histories before e → IsSent x histories e
may_sent x histories before (Emit i) may = tt
may_sent x histories before (Receive i) may = may

-- the earlier one of the first emission that is not enabled and the first receipt that was not sent
pub first_of_both : (x : Expanded) (histories : List (List Event)) (role : ℕ) (history : List Event) (m n : ℕ) → AreOwn x role history → IsFirstDisabled x history m → IsFirstUnsent x histories history n → IsFirstBad x histories history (min m n)
first_of_both x histories role history m n own disabled unsent =
    record {
      within = omega (arith, disabled.within);
      fine = λ k e before at. enabled_may x histories role (take k history) e (All-take (λ f. role_of x f ≡ role) k history own) (all_at (λ f. role_of x f ≡ role) history k e own at)
          (disabled.enabled k e (omega (arith, before)) at) (unsent.sent k e (omega (arith, before)) at);
      bad = elim (cases_lt m n) [
        | inl less ↦ subst (λ k. (e : Event) → slice_get history k ≡ Some e → ¬ MayHappen x histories (take k history) e) (omega (arith, less))
            (λ e at may. disabled.disabled e at (may_enabled x histories role (take m history) e (All-take (λ f. role_of x f ≡ role) m history own) (all_at (λ f. role_of x f ≡ role) history m e own at) may))
        | inr more ↦ subst (λ k. (e : Event) → slice_get history k ≡ Some e → ¬ MayHappen x histories (take k history) e) (omega (arith, more))
            (λ e at may. unsent.unsent e at (may_sent x histories (take n history) e may))
      ];
    }

-- why an event may not follow its role's own events
pub own_reason : (x : Expanded) (role : ℕ) (before : List Event) (e : Event) (why : Why) → AreOwn x role before → role_of x e ≡ role → MayNotFollow x before e why → IsWhy x before e why
own_reason x role before (Emit i) why own own_event reason =
    subst (λ es. IsFirstReason x es i (message_of x i.message).carried why) (own_history x role before own)
    (subst (λ r. IsFirstReason x (history_of x r before) i (message_of x i.message).carried why) own_event reason)
own_reason x role before (Receive i) why own own_event reason = reason.0

-- an emission that may follow them may happen
pub own_follows : (x : Expanded) (histories : List (List Event)) (role : ℕ) (before : List Event) (i : Instance) → AreOwn x role before → (message_of x i.message).sender ≡ role → MayFollow x before (Emit i) → MayHappen x histories before (Emit i)
own_follows x histories role before i own own_event may = enabled_may x histories role before (Emit i) own own_event may tt

-- a history whose first bad place is its end has none
pub none_bad_of : (x : Expanded) (histories : List (List Event)) (role : ℕ) (history : List Event) (n : ℕ) → history ≡ events_at histories role → IsFirstBad x histories history n → length history ≤ n → HasNoBadPlace x histories role
none_bad_of x histories role history n same first is_end =
    subst (λ (es : List Event). (k : ℕ) (e : Event) → slice_get es k ≡ Some e → MayHappen x histories (take k es) e) same
    (λ k e at. first.fine k e (omega (arith, is_end, slice_get_within history k e at)) at)

-- the first bad place of a history
pub bad_of : (x : Expanded) (histories : List (List Event)) (role : ℕ) (history : List Event) (n place : ℕ) (e : Event) (why : Why) → history ≡ events_at histories role → IsFirstBad x histories history n → slice_get (events_at histories role) n ≡ Some e
    → ((others : List (List Event)) → ¬ MayHappen x others (take n history) e → IsWhy x (take n history) e why) → place ≡ n + 1 → IsFirstBadOf x histories role (record { role = role; place = place; why = why })
bad_of x histories role history n place e why same first at reason is =
    let there : slice_get history n ≡ Some e = ap (λ (es : List Event). slice_get es n) same ∙ at in
    let bad = first.bad e there in
    record {
      index = n;
      same_role = refl;
      place_is = is;
      bad = record {
        event = e;
        at = at;
        bad = subst (λ (es : List Event). ¬ MayHappen x histories (take n es) e) same bad;
        why_is = subst (λ (es : List Event). IsWhy x (take n es) e why) same (reason histories bad);
      };
      before = subst (λ (es : List Event). (k : ℕ) (f : Event) → k < n → slice_get es k ≡ Some f → MayHappen x histories (take k es) f) same first.fine;
    }

-- nothing was found
pub none_found : {F : Type 0} (found : Option F) (P : Type 0) (Q : F → Type 0) → is_some found ≡ false → MatchOption found P Q → P
none_found None P Q none match = match
none_found (Some found) P Q none match = absurd (true≢false none)
