-- What it does to all desks when one agent takes an envelope.
use Rattle.std.proofs.Common.{◌≡◌, ℕ, ◌+◌, ◌-◌, ◌<◌, inl, inr, Option, None, Some, false, List, [], ◌∷◌, ◌++◌, length, map, refl, sym, ap, ◌∙◌, subst, arith, All, Contains}
use Rattle.std.specs.Prelude.{IsSomeAnd, is_some, max, slice_get, slice_set}
use Rattle.std.proofs.lemmas.List.{append-nil, map-append}
use Rattle.std.proofs.lemmas.List.Elements.{All-contains, Contains-append_left, Contains-push, Contains-push_cases}
use Rattle.std.proofs.lemmas.List.Sums.{sum_by-set}
use Rattle.std.proofs.lemmas.Option.{get_or_from_slice_get, slice_get_within}
use Rattle.list_base.proofs.Membership.{member_at}
use Rattle.rand_pcg.specs.Lcg.{Lcg}
use Rattle.bspl_types.specs.declared.envelope.Envelope.{Envelope}
use Rattle.bspl_types.specs.declared.envelope.Stamped.{Stamped}
use Rattle.bspl_types.specs.declared.event.Event.{Event}
use Rattle.bspl_types.specs.declared.event.Event.TheVariants.{Emit, Receive}
use Rattle.bspl_types.specs.declared.event.Instance.{Instance}
use Rattle.bspl_types.specs.declared.expanded.Expanded.{Expanded}
use Rattle.bspl_types.specs.declared.value.Value.{Value}
use Rattle.enactment_model.specs.Safety.{SafeProtocol}
use Rattle.adapter.specs.Desk.{DeskState}
use Rattle.adapter.specs.Kept.{IsFor, IsKept}
use Rattle.adapter.specs.Steps.{IsTaken, IsTaking, picked_index}
use Rattle.agent_scripts.specs.Job.{Job}
use Rattle.local_store.specs.declared.receipt.Receipt.{Receipt}
use Rattle.local_store.specs.declared.receipt.Receipt.TheVariants.{Fresh, Repeat, Differs}
use Rattle.local_store.specs.Reception.{IsFirstDifference}
use Rattle.local_store.specs.State.{acts_of, StoreState}
use Rattle.reorder_net.specs.Inbox.{after_spending}
use Rattle.stamped_history.specs.declared.entry.Entry.{Entry}
use Rattle.stamped_history.specs.Entries.{last_stamp}
use Rattle.stamped_history.specs.Extended.{ReceiptKeepsExplained}
use Rattle.world_run.specs.Sent.{IsSent}
use Rattle.world_run.specs.World.{histories_of}
use Rattle.world_run.specs.inner.Steps.{IsProgress}
use Rattle.world_run.specs.inner.InProgress.{Arrives, AreSound, AreWhole, Extend}
use Rattle.world_run.specs.inner.Work.{copies_in, work_left, work_of}
use Rattle.world_run.proofs.GrowLemmas.{clock_bounded, grow, grow_none, run_short}
use Rattle.world_run.proofs.InboxLemmas.{spent_all, spent_less, spent_other}
use Rattle.world_run.proofs.SetLemmas.{set_same}
use Rattle.world_run.proofs.SoundLemmas.{inbox_sound, never_differs, receipt_sound, sent_bounded}
use Rattle.world_run.proofs.WholeLemmas.{but_after, but_whole, whole_but}

-- what a taking leaves
pub record Taken (job : Job) (desks : List DeskState) (role : ℕ) (result : Option Receipt) (new : List DeskState) : Type 0 where
  pub extend : Extend job desks new
  pub progress : IsProgress job desks (is_some result) new
  pub empty : is_some result ≡ false → (d : DeskState) → slice_get new role ≡ Some d → d.inbox.envelopes ≡ []

-- a list without length has no item
none_of : {X : Type 0} (xs : List X) → length xs ≡ 0 → xs ≡ []
none_of [] none = refl
none_of (x ∷ xs) none = absurd (omega (arith, none))

-- the work that is left when one desk's work is less
pub less_left : (desks : List DeskState) (role : ℕ) (old new : DeskState) → slice_get desks role ≡ Some old → work_of new < work_of old → work_left (slice_set desks role new) < work_left desks
less_left desks role old new at less =
    let sums = sum_by-set work_of desks role new old (slice_get_within desks role old at) in
    let is = ap work_of (get_or_from_slice_get desks role old old at) in
    omega (arith, sums, is, less)

module _ (keeps : ReceiptKeepsExplained) (job : Job) (desks : List DeskState) (role : ℕ) (old new : DeskState) (safe : SafeProtocol job.protocol) (sound : AreSound job desks) (whole : AreWhole job desks) (at : slice_get desks role ≡ Some old) (kept : IsKept job role new) where
  -- nothing happened
  nothing : new ≡ old → slice_set desks role new ≡ desks
  nothing same = set_same desks role new (at ∙ ap Some (sym same))

  -- what is held is for the role
  is_for : (k : ℕ) (e : Envelope) → slice_get old.inbox.envelopes k ≡ Some e → IsFor job role e
  is_for k e held = All-contains (IsFor job role) old.inbox.envelopes e (sound.kept.each role old at).inbox (member_at old.inbox.envelopes k e held)

  -- and was sent
  is_sent : (k : ℕ) (e : Envelope) → slice_get old.inbox.envelopes k ≡ Some e → IsSent job.protocol (histories_of desks) e.message
  is_sent k e held = All-contains (λ (f : Envelope). IsSent job.protocol (histories_of desks) f.message) old.inbox.envelopes e (sound.sent role old at) (member_at old.inbox.envelopes k e held)

  -- what is still held too
  still_sent : (k : ℕ) (e : Envelope) → slice_get old.inbox.envelopes k ≡ Some e → new.inbox.envelopes ≡ after_spending old.inbox.envelopes k e → All (λ f. IsSent job.protocol (histories_of desks) f.message) new.inbox.envelopes
  still_sent k e held spent = subst (λ es. All (λ (f : Envelope). IsSent job.protocol (histories_of desks) f.message) es) (sym spent)
      (spent_all (λ m. IsSent job.protocol (histories_of desks) m) old.inbox.envelopes k e held (sound.sent role old at))

  -- a message that arrived still does, if that of the spent envelope was received
  still_arrives : (k : ℕ) (e : Envelope) → slice_get old.inbox.envelopes k ≡ Some e → new.inbox.envelopes ≡ after_spending old.inbox.envelopes k e → ((f : Event) → Contains (acts_of old.store) f → Contains (acts_of new.store) f) → Contains (acts_of new.store) (Receive e.message.instance) → (i : Instance) → Arrives old i → Arrives new i
  still_arrives k e held spent more received i (inl was) = inl (more (Receive i) was)
  still_arrives k e held spent more received i (inr waits) = elim (spent_other old.inbox.envelopes k e i held waits) [
    | inl is ↦ inl (subst (λ j. Contains (acts_of new.store) (Receive j)) is received)
    | inr left ↦ inr (subst (λ es. Contains (map (λ (f : Envelope). f.message.instance) es) i) (sym spent) left)
  ]

  -- one copy less is held
  copy_less : (k : ℕ) (e : Envelope) → slice_get old.inbox.envelopes k ≡ Some e → new.inbox.envelopes ≡ after_spending old.inbox.envelopes k e → copies_in new.inbox.envelopes + 1 ≡ copies_in old.inbox.envelopes
  copy_less k e held spent = ap (λ es. copies_in es + 1) spent ∙ spent_less old.inbox.envelopes k e held (is_for k e held).some

  -- the number of events is below the last value of a clock
  short : length sound.run.run < 18446744073709551615
  short = run_short job desks sound.run sound.kept

  -- so nothing but an empty inbox keeps an agent from taking
  takes_none : (g : Lcg) → IsTaking g old None new → Taken job desks role None (slice_set desks role new)
  takes_none g taking =
      let same = nothing taking.1 in
      record {
        extend = subst (Extend job desks) (sym same) (record { sound = sound; grow = grow_none (histories_of desks) });
        progress = record {
          whole = subst (AreWhole job) (sym same) whole;
          less = λ acted. absurd (cc);
          same = λ rested. same;
        };
        empty = λ rested d d_at.
            let d_is : d ≡ old = cc_desk d (subst (λ ds. slice_get ds role ≡ Some d) same d_at) in
            ap (λ (f : DeskState). f.inbox.envelopes) d_is ∙ elim taking.0 [
              | inl none ↦ none_of old.inbox.envelopes none
              | inr late ↦ elim late [
                | inl clock ↦ absurd (omega (arith, clock, clock_bounded job.protocol desks role old sound.run at, short))
                | inr stamp ↦ absurd (late_stamp (picked_index g old.inbox) stamp)
              ]
            ];
      }
    where
      cc_desk : (d : DeskState) → slice_get desks role ≡ Some d → d ≡ old
      cc_desk d d_at = sym (get_or_from_slice_get desks role d old d_at) ∙ get_or_from_slice_get desks role old old at

      late_stamp : (k : ℕ) → IsSomeAnd (slice_get old.inbox.envelopes k) (λ e. e.message.stamp ≡ 18446744073709551615) → ⊥
      late_stamp k = (elim (slice_get old.inbox.envelopes k) as (λ o. slice_get old.inbox.envelopes k ≡ o → IsSomeAnd o (λ (e : Envelope). e.message.stamp ≡ 18446744073709551615) → ⊥) [
        | None ↦ λ is bad. bad
        | Some e ↦ λ is last. omega (arith, last, sent_bounded job.protocol desks sound.run e.message (is_sent k e is), short)
      ]) refl

  -- a first receipt
  takes_fresh : (k : ℕ) → IsTaken k old Fresh new → Taken job desks role (Some Fresh) (slice_set desks role new)
  takes_fresh k taken =
      let e : Envelope = taken.envelope in
      let m : Stamped = e.message in
      let entry : Entry = record { event = Receive m.instance; stamp = max (last_stamp old.store.entries) m.stamp + 1; number = m.number } in
      let store_is = taken.receipt.2 in
      let longer : new.store.entries ≡ old.store.entries ++ entry ∷ [] = ap (λ (s : StoreState). s.entries) store_is in
      let acts : acts_of new.store ≡ acts_of old.store ++ Receive m.instance ∷ [] = ap (λ (es : List Entry). map (λ (f : Entry). f.event) es) longer ∙ map-append (λ (f : Entry). f.event) old.store.entries (entry ∷ []) in
      let spare : new.store.spare ≡ old.store.spare - 1 = ap (λ (s : StoreState). s.spare) store_is in
      record {
        extend = record {
          sound = receipt_sound keeps job desks role old new entry m sound at kept longer (is_sent k e taken.picked) refl (still_sent k e taken.picked taken.spent.envelopes);
          grow = grow desks role old new (entry ∷ []) at longer;
        };
        progress = record {
          whole = but_whole job (slice_set desks role new) (but_after (λ i. ⊥) (λ i. ⊥) job desks role old new at
              (λ i among. elim (Contains-push_cases (acts_of old.store) (Receive m.instance) (Emit i) (subst (λ es. Contains es (Emit i)) acts among)) [
                | inl early ↦ inl early
                | inr is ↦ absurd (cc)
              ])
              (λ i none. none)
              (still_arrives k e taken.picked taken.spent.envelopes
              (λ f was. subst (λ es. Contains es f) (sym acts) (Contains-append_left (acts_of old.store) (Receive m.instance ∷ []) f was))
              (subst (λ es. Contains es (Receive m.instance)) (sym acts) (Contains-push (acts_of old.store) (Receive m.instance))))
              (whole_but job desks whole));
          less = λ acted. less_left desks role old new at (omega (arith, spare, copy_less k e taken.picked taken.spent.envelopes, (sound.kept.each role old at).room));
          same = λ rested. absurd (cc);
        };
        empty = λ rested. absurd (cc);
      }

  -- a receipt that is repeated
  takes_repeat : (k : ℕ) → IsTaken k old Repeat new → Taken job desks role (Some Repeat) (slice_set desks role new)
  takes_repeat k taken =
      let e : Envelope = taken.envelope in
      let store_is : new.store ≡ old.store = taken.receipt.1 in
      record {
        extend = record {
          sound = inbox_sound job desks role old new sound at kept store_is (still_sent k e taken.picked taken.spent.envelopes);
          grow = grow desks role old new [] at (ap (λ (s : StoreState). s.entries) store_is ∙ sym (append-nil old.store.entries));
        };
        progress = record {
          whole = but_whole job (slice_set desks role new) (but_after (λ i. ⊥) (λ i. ⊥) job desks role old new at
              (λ i among. inl (subst (λ (s : StoreState). Contains (acts_of s) (Emit i)) store_is among))
              (λ i none. none)
              (still_arrives k e taken.picked taken.spent.envelopes
              (λ f was. subst (λ (s : StoreState). Contains (acts_of s) f) (sym store_is) was)
              (subst (λ (s : StoreState). Contains (acts_of s) (Receive e.message.instance)) (sym store_is) taken.receipt.0))
              (whole_but job desks whole));
          less = λ acted. less_left desks role old new at (omega (arith, ap (λ (s : StoreState). s.spare) store_is, copy_less k e taken.picked taken.spent.envelopes));
          same = λ rested. absurd (cc);
        };
        empty = λ rested. absurd (cc);
      }

  -- no message differs
  takes_differing : (k p : ℕ) (v w : Value) → IsTaken k old (Differs p v w) new → ⊥
  takes_differing k p v w taken =
      let e : Envelope = taken.envelope in
      let is = is_for k e taken.picked in
      let differs : IsFirstDifference job.protocol (acts_of old.store) e.message.instance p v w =
      subst (λ (x : Expanded). IsFirstDifference x (acts_of old.store) e.message.instance p v w) (sound.kept.each role old at).protocol_is taken.receipt.1 in
      never_differs job.protocol desks role old sound.run e.message p v w safe at (is_sent k e taken.picked) is.fits is.own differs

  -- what a taking leaves, whatever it answers
  pub taken : (g : Lcg) (result : Option Receipt) → IsTaking g old result new → Taken job desks role result (slice_set desks role new)
  taken g None taking = takes_none g taking
  taken g (Some Fresh) taking = takes_fresh (picked_index g old.inbox) taking
  taken g (Some Repeat) taking = takes_repeat (picked_index g old.inbox) taking
  taken g (Some (Differs p v w)) taking = absurd (takes_differing (picked_index g old.inbox) p v w taking)
