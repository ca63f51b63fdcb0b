-- The steps of one desk leave all desks sound.
use Rattle.std.proofs.Common.{◌≡◌, ℕ, ◌+◌, ◌≤◌, inl, inr, Some, List, [], ◌∷◌, ◌++◌, length, refl, sym, ap, ◌∙◌, subst, arith, option_map, All, Contains}
use Rattle.std.specs.Prelude.{◌==◌, max, slice_get, slice_set}
use Rattle.std.specs.List.{sum_by}
use Rattle.std.proofs.lemmas.List.{append-nil, length-set}
use Rattle.std.proofs.lemmas.List.Elements.{All-contains, All-push, All-weaker, Contains-append_left, Contains-append_right, Contains-push}
use Rattle.std.proofs.lemmas.Option.{slice_get-map}
use Rattle.list_base.proofs.Filtered.{filtered_member}
use Rattle.list_base.proofs.Mapped.{all_of_mapped}
use Rattle.list_base.proofs.Members.{here}
use Rattle.list_base.proofs.Membership.{member_at}
use Rattle.bspl_types.specs.declared.envelope.Envelope.{Envelope}
use Rattle.bspl_types.specs.declared.envelope.Stamped.{Stamped}
use Rattle.bspl_types.specs.declared.event.Event.{Event}
use Rattle.bspl_types.specs.declared.event.Event.TheVariants.{Emit, Receive}
use Rattle.bspl_types.specs.declared.event.Instance.{Instance}
use Rattle.bspl_types.specs.declared.expanded.Expanded.{Expanded}
use Rattle.bspl_types.specs.declared.value.Value.{Value}
use Rattle.bspl_types.specs.Expansion.{message_of}
use Rattle.bspl_types.specs.History.{history_of, instance_of, role_of}
use Rattle.bspl_types.specs.Instance.{Fits}
use Rattle.bspl_types.specs.Knowledge.{IsEnabled, Knows}
use Rattle.enactment_model.specs.Legal.{IsLegalRun, MayFollow}
use Rattle.enactment_model.specs.Safety.{SafeProtocol}
use Rattle.adapter.specs.Desk.{DeskState}
use Rattle.adapter.specs.Kept.{IsKept}
use Rattle.agent_scripts.specs.Job.{Job}
use Rattle.local_store.specs.Reception.{IsFirstDifference}
use Rattle.local_store.specs.State.{acts_of}
use Rattle.stamped_history.specs.declared.entry.Entry.{Entry}
use Rattle.stamped_history.specs.Entries.{events_of, last_stamp}
use Rattle.stamped_history.specs.Explained.{AreExplained, history_at, IsExplained}
use Rattle.stamped_history.specs.Extended.{EmissionKeepsExplained, extended, ReceiptKeepsExplained}
use Rattle.stamped_history.specs.Local.{IsLocal, MayEmit, MayFollowAs}
use Rattle.world_run.specs.Sent.{AreSent, IsSent}
use Rattle.world_run.specs.World.{AreKept, HistoriesGrow, histories_of}
use Rattle.world_run.specs.inner.InProgress.{AreSound, HaveRun}
use Rattle.world_run.proofs.GrowLemmas.{clock_bounded, grow, histories_after, histories_same, history_own, IsMore, legal_longer, run_more, sent_later}
use Rattle.world_run.proofs.SetLemmas.{item_after}
use Rattle.world_run.proofs.WorldLemmas.{history_is, local_at}

-- the desks are kept with another one of the role that is
pub kept_after : (job : Job) (desks : List DeskState) (role : ℕ) (new : DeskState) → AreKept job desks → IsKept job role new → AreKept job (slice_set desks role new)
kept_after job desks role new kept is =
    record {
      count = length-set desks role new ∙ kept.count;
      each = λ other d at. elim (item_after desks role new other d at) [
        | inl here ↦ subst (λ r. IsKept job r d) (sym here.0) (subst (IsKept job role) here.1 is)
        | inr there ↦ kept.each other d there.1
      ];
    }

-- what the inboxes hold was sent
sent_after : (x : Expanded) (desks : List DeskState) (role : ℕ) (new : DeskState) → HistoriesGrow (histories_of desks) (histories_of (slice_set desks role new)) → AreSent x desks → All (λ e. IsSent x (histories_of desks) e.message) new.inbox.envelopes → AreSent x (slice_set desks role new)
sent_after x desks role new grown sent own other d at =
    All-weaker (λ (e : Envelope). IsSent x (histories_of desks) e.message) (λ (e : Envelope). IsSent x (histories_of (slice_set desks role new)) e.message)
    (λ e was. sent_later x (histories_of desks) (histories_of (slice_set desks role new)) e.message grown was)
    d.inbox.envelopes
    (elim (item_after desks role new other d at) [
      | inl here ↦ subst (λ (f : DeskState). All (λ (e : Envelope). IsSent x (histories_of desks) e.message) f.inbox.envelopes) here.1 own
      | inr there ↦ sent other d there.1
    ])

-- another inbox leaves the desks sound
pub inbox_sound : (job : Job) (desks : List DeskState) (role : ℕ) (old new : DeskState) → AreSound job desks → slice_get desks role ≡ Some old → IsKept job role new → new.store ≡ old.store → All (λ e. IsSent job.protocol (histories_of desks) e.message) new.inbox.envelopes → AreSound job (slice_set desks role new)
inbox_sound job desks role old new sound at is same own =
    let as_before : histories_of (slice_set desks role new) ≡ histories_of desks = histories_same desks role old new at (ap (λ s. s.entries) same) in
    record {
      kept = kept_after job desks role new sound.kept is;
      explained = subst (AreExplained job.protocol) (sym as_before) sound.explained;
      sent = sent_after job.protocol desks role new (grow desks role old new [] at (ap (λ s. s.entries) same ∙ sym (append-nil old.store.entries))) sound.sent own;
      run = record {
        run = sound.run.run;
        legal = sound.run.legal;
        kept = λ r. sound.run.kept r ∙ ap (λ hs. events_of (history_at hs r)) (sym as_before);
        stamps = λ r. subst (λ hs. All (λ (e : Entry). e.stamp ≤ length sound.run.run) (history_at hs r)) (sym as_before) (sound.run.stamps r);
        count = subst (λ hs. length sound.run.run ≡ sum_by length hs) (sym as_before) sound.run.count;
      };
    }

-- an entry that a desk has more is one of the role's, and fits
more_of : (x : Expanded) (role : ℕ) (old new : List Entry) (e : Entry) (count : ℕ) → IsLocal x role new → new ≡ old ++ e ∷ [] → e.stamp ≤ count + 1 → IsMore x role old new e count
more_of x role old new e count local longer low =
    let among : Contains new e = subst (λ h. Contains h e) (sym longer) (Contains-push old e) in
    record {
      longer = longer;
      fits = All-contains (λ (f : Entry). Fits x (instance_of f.event)) new e (all_of_mapped (λ f. Fits x (instance_of f)) (λ (f : Entry). f.event) new local.fits) among;
      own = All-contains (λ (f : Entry). role_of x f.event ≡ role) new e (all_of_mapped (λ f. role_of x f ≡ role) (λ (f : Entry). f.event) new local.own) among;
      stamp = low;
    }

-- the histories with the entry
extended_is : (desks : List DeskState) (role : ℕ) (old new : DeskState) (e : Entry) → slice_get desks role ≡ Some old → new.store.entries ≡ old.store.entries ++ e ∷ [] → extended (histories_of desks) role e ≡ histories_of (slice_set desks role new)
extended_is desks role old new e at longer =
    ap (slice_set (histories_of desks) role) (ap (λ h. h ++ e ∷ []) (history_is desks role old at) ∙ sym longer)
    ∙ sym (histories_after desks role new)

-- an emission leaves the desks sound
pub emission_sound : EmissionKeepsExplained → (job : Job) (desks : List DeskState) (role : ℕ) (old new : DeskState) (e : Entry) (i : Instance) → AreSound job desks → slice_get desks role ≡ Some old → IsKept job role new → new.store.entries ≡ old.store.entries ++ e ∷ [] → e.event ≡ Emit i → new.inbox.envelopes ≡ old.inbox.envelopes → AreSound job (slice_set desks role new)
emission_sound keeps job desks role old new e i sound at is longer emitted held =
    let x : Expanded = job.protocol in
    let r : HaveRun x desks = sound.run in
    let local : IsLocal x role new.store.entries = local_at job role new is in
    let may : MayEmit x old.store.entries i e.stamp e.number =
    subst (λ f. MayFollowAs x old.store.entries f e.stamp e.number) emitted (local.follows old.store.entries [] e longer) in
    let low : e.stamp ≤ length r.run + 1 = omega (arith, may.next, clock_bounded x desks role old r at) in
    let more = more_of x role old.store.entries new.store.entries e (length r.run) local longer low in
    let own : (message_of x i.message).sender ≡ role = ap (role_of x) (sym emitted) ∙ more.own in
    let known : history_of x role r.run ≡ events_of old.store.entries = r.kept role ∙ ap events_of (history_is desks role old at) in
    let enabled : IsEnabled x (history_of x (message_of x i.message).sender r.run) i =
    subst (λ h. IsEnabled x h i) (sym (ap (λ s. history_of x s r.run) own ∙ known)) may.enabled in
    record {
      kept = kept_after job desks role new sound.kept is;
      explained = subst (AreExplained x) (extended_is desks role old new e at longer) (keeps x (histories_of desks) role e i sound.explained emitted);
      sent = sent_after x desks role new (grow desks role old new (e ∷ []) at longer) sound.sent
          (subst (λ es. All (λ (f : Envelope). IsSent x (histories_of desks) f.message) es) (sym held) (sound.sent role old at));
      run = run_more x desks role old new e r at more (subst (MayFollow x r.run) (sym emitted) enabled);
    }

-- what was sent is in the run
sent_in_run : (x : Expanded) (desks : List DeskState) (r : HaveRun x desks) (m : Stamped) → IsSent x (histories_of desks) m → Contains r.run (Emit m.instance)
sent_in_run x desks r m sent =
    let sender : ℕ = (message_of x m.instance.message).sender in
    let at : slice_get (events_of (history_at (histories_of desks) sender)) m.number ≡ Some (Emit m.instance) =
    slice_get-map (λ (f : Entry). f.event) (history_at (histories_of desks) sender) m.number
    ∙ ap (option_map (λ (f : Entry). f.event)) sent.numbered ∙ ap Some sent.emitted in
    let among : Contains (history_of x sender r.run) (Emit m.instance) =
    subst (λ h. Contains h (Emit m.instance)) (sym (r.kept sender)) (member_at (events_of (history_at (histories_of desks) sender)) m.number (Emit m.instance) at) in
    (filtered_member (λ f. role_of x f == sender) r.run (Emit m.instance) among).0

-- its stamp is at most the number of events
pub sent_bounded : (x : Expanded) (desks : List DeskState) (r : HaveRun x desks) (m : Stamped) → IsSent x (histories_of desks) m → m.stamp ≤ length r.run
sent_bounded x desks r m sent =
    let sender : ℕ = (message_of x m.instance.message).sender in
    let low : sent.emission.stamp ≤ length r.run =
    All-contains (λ (f : Entry). f.stamp ≤ length r.run) (history_at (histories_of desks) sender) sent.emission (r.stamps sender)
    (member_at (history_at (histories_of desks) sender) m.number sent.emission sent.numbered) in
    omega (arith, low, sent.stamped)

-- a receipt of what was sent leaves the desks sound
pub receipt_sound : ReceiptKeepsExplained → (job : Job) (desks : List DeskState) (role : ℕ) (old new : DeskState) (e : Entry) (m : Stamped) → AreSound job desks → slice_get desks role ≡ Some old → IsKept job role new → new.store.entries ≡ old.store.entries ++ e ∷ [] → IsSent job.protocol (histories_of desks) m → e ≡ record { event = Receive m.instance; stamp = max (last_stamp old.store.entries) m.stamp + 1; number = m.number } → All (λ f. IsSent job.protocol (histories_of desks) f.message) new.inbox.envelopes → AreSound job (slice_set desks role new)
receipt_sound keeps job desks role old new e m sound at is longer sent e_is held =
    let x : Expanded = job.protocol in
    let r : HaveRun x desks = sound.run in
    let received : e.event ≡ Receive m.instance = ap (λ (f : Entry). f.event) e_is in
    let stamp_is : e.stamp ≡ max (last_stamp old.store.entries) m.stamp + 1 = ap (λ (f : Entry). f.stamp) e_is in
    let number_is : e.number ≡ m.number = ap (λ (f : Entry). f.number) e_is in
    let low : e.stamp ≤ length r.run + 1 = omega (arith, stamp_is, clock_bounded x desks role old r at, sent_bounded x desks r m sent) in
    let more = more_of x role old.store.entries new.store.entries e (length r.run) (local_at job role new is) longer low in
    let by : IsExplained x (histories_of desks) (history_at (histories_of desks) role) m.instance e = record {
      emission = sent.emission;
      numbered = ap (slice_get (history_at (histories_of desks) (message_of x m.instance.message).sender)) number_is ∙ sent.numbered;
      emitted = sent.emitted;
      stamped = stamp_is ∙ ap (λ s. max (last_stamp old.store.entries) s + 1) (sym sent.stamped)
          ∙ ap (λ h. max (last_stamp h) sent.emission.stamp + 1) (sym (history_is desks role old at));
    } in
    record {
      kept = kept_after job desks role new sound.kept is;
      explained = subst (AreExplained x) (extended_is desks role old new e at longer) (keeps x (histories_of desks) role e m.instance sound.explained received by);
      sent = sent_after x desks role new (grow desks role old new (e ∷ []) at longer) sound.sent held;
      run = run_more x desks role old new e r at more (subst (MayFollow x r.run) (sym received) (sent_in_run x desks r m sent));
    }

-- what was sent never differs from what its receiver knows, if the protocol is safe
pub never_differs : (x : Expanded) (desks : List DeskState) (role : ℕ) (d : DeskState) (r : HaveRun x desks) (m : Stamped) (param : ℕ) (kept arrived : Value) → SafeProtocol x → slice_get desks role ≡ Some d → IsSent x (histories_of desks) m → Fits x m.instance → (message_of x m.instance.message).receiver ≡ role → IsFirstDifference x (acts_of d.store) m.instance param kept arrived → ⊥
never_differs x desks role d r m param kept arrived safe at sent fits own differs =
    let e : Event = Receive m.instance in
    let legal : IsLegalRun x (r.run ++ e ∷ []) = record {
      fits = All-push (λ f. Fits x (instance_of f)) r.run e r.legal.fits fits;
      legal = legal_longer x r.run e r.legal.legal (sent_in_run x desks r m sent);
    } in
    let known : history_of x role (r.run ++ e ∷ []) ≡ acts_of d.store ++ e ∷ [] =
    history_own x role r.run e own ∙ ap (λ es. es ++ e ∷ []) (r.kept role ∙ ap events_of (history_is desks role d at)) in
    let knows : Knows x (acts_of d.store ++ e ∷ []) m.instance.key param kept = record {
      event = differs.knows.event;
      among = Contains-append_left (acts_of d.store) (e ∷ []) differs.knows.event differs.knows.among;
      under = differs.knows.under;
      adornment = differs.knows.adornment;
      carries = differs.knows.carries;
    } in
    let also : Knows x (acts_of d.store ++ e ∷ []) m.instance.key differs.differing.0.param differs.differing.1 = record {
      event = e;
      among = Contains-push (acts_of d.store) e;
      under = refl;
      adornment = differs.differing.0.adornment;
      carries = subst (λ ps. Contains ps differs.differing) (sym differs.split) (Contains-append_right differs.before (differs.differing ∷ differs.after) differs.differing (here differs.differing differs.after));
    } in
    let one : kept ≡ differs.differing.1 = safe.agree (r.run ++ e ∷ []) legal m.instance.key differs.differing.0.param role role kept differs.differing.1
    (subst (λ h. Knows x h m.instance.key differs.differing.0.param kept) (sym known) (subst (λ p. Knows x (acts_of d.store ++ e ∷ []) m.instance.key p kept) differs.param_is knows))
    (subst (λ h. Knows x h m.instance.key differs.differing.0.param differs.differing.1) (sym known) also) in
    differs.differs (one ∙ sym differs.arrived_is)
