-- What it does to all desks when one agent emits and the envelope is put into its receiver's inbox.
use Rattle.std.proofs.Common.{◌≡◌, ℕ, ◌+◌, ◌-◌, ◌<◌, ◌≤◌, inl, inr, None, Some, true, false, List, [], ◌∷◌, ◌++◌, length, map, refl, sym, ap, ◌∙◌, subst, arith, All, Contains}
use Rattle.std.specs.Prelude.{if◌then◌else◌, slice_get, slice_set}
use Rattle.std.proofs.lemmas.List.{append-nil, length-set, map-append}
use Rattle.std.proofs.lemmas.List.Elements.{All-contains, All-get_or, Contains-append_left, Contains-push, Contains-push_cases}
use Rattle.std.proofs.lemmas.List.Sums.{sum_by-set}
use Rattle.std.proofs.lemmas.Option.{get_or_from_slice_get, slice_get-get_or, slice_get_within}
use Rattle.list_base.proofs.Mapped.{all_of_mapped}
use Rattle.bspl_types.specs.declared.envelope.Envelope.{Envelope}
use Rattle.bspl_types.specs.declared.envelope.Stamped.{Stamped}
use Rattle.bspl_types.specs.declared.event.Event.{Event}
use Rattle.bspl_types.specs.declared.event.Event.TheVariants.{Emit, Receive}
use Rattle.bspl_types.specs.declared.event.Instance.{Instance}
use Rattle.bspl_types.specs.declared.expanded.Expanded.{Expanded}
use Rattle.bspl_types.specs.declared.value.Value.{Value}
use Rattle.bspl_types.specs.Expansion.{message_of, no_message}
use Rattle.bspl_types.specs.History.{role_of}
use Rattle.bspl_types.specs.Shape.{IsMessageOf}
use Rattle.adapter.specs.Desk.{DeskState}
use Rattle.adapter.specs.Kept.{IsKept}
use Rattle.adapter.specs.Next.{IsNext}
use Rattle.adapter.specs.Rules.{key_of, rules_of}
use Rattle.adapter.specs.Steps.{after_emission, IsNextEnvelope, IsPlanned}
use Rattle.agent_scripts.specs.declared.plan.Plan.{Plan}
use Rattle.agent_scripts.specs.Job.{Job}
use Rattle.local_store.specs.State.{acts_of, StoreState}
use Rattle.stamped_history.specs.Rules.{IsNumber}
use Rattle.reorder_net.specs.Inbox.{put_last}
use Rattle.reorder_net.specs.Losses.{copies_of, is_lost}
use Rattle.stamped_history.specs.declared.entry.Entry.{Entry}
use Rattle.stamped_history.specs.Explained.{history_at}
use Rattle.stamped_history.specs.Extended.{EmissionKeepsExplained}
use Rattle.world_run.specs.Sent.{IsSent}
use Rattle.world_run.specs.World.{histories_of, HistoriesGrow}
use Rattle.world_run.specs.inner.Steps.{IsProgress}
use Rattle.world_run.specs.inner.InProgress.{AreSound, AreWhole, Extend}
use Rattle.world_run.specs.inner.Work.{copies_in, work_left, work_of}
use Rattle.world_run.proofs.GrowLemmas.{clock_bounded, grow, grow_twice, history_here, run_short}
use Rattle.world_run.proofs.InboxLemmas.{put_all, put_copies, put_holds, put_keeps}
use Rattle.world_run.proofs.SetLemmas.{set_same}
use Rattle.world_run.proofs.SoundLemmas.{emission_sound, inbox_sound}
use Rattle.world_run.proofs.WholeLemmas.{but_after, put_whole, whole_but, WholeBut}
use Rattle.world_run.proofs.WorldLemmas.{local_at}

-- the last item is at the length of those before it
item_last : {X : Type 0} (xs : List X) (x : X) → slice_get (xs ++ x ∷ []) (length xs) ≡ Some x
item_last [] x = refl
item_last (y ∷ xs) x = item_last xs x

-- all desks after an emission whose envelope was not put yet
pub record Emitted (job : Job) (desks : List DeskState) (n : ℕ) (e : Envelope) (mid : List DeskState) : Type 0 where
  pub sound : AreSound job mid
  pub grown : HistoriesGrow (histories_of desks) (histories_of mid)
  pub sent : IsSent job.protocol (histories_of mid) e.message
  pub but : WholeBut (λ i. e.message.instance ≡ i) job mid
  pub work : work_left mid + 5 ≡ work_left desks
  pub to : (message_of job.protocol e.message.instance.message).receiver ≡ e.to
  pub within : e.to < length mid
  pub number : IsNumber (rules_of job) n e.message.instance.key
  pub copies : e.copies ≡ copies_of job.plan e.message.instance.message n

-- at most four copies
few_copies : (plan : Plan) (m n : ℕ) → copies_of plan m n ≤ 4
few_copies plan m n = elim (is_lost plan m n) as (λ b. (if b then 0 else 1 + plan.repeat) ≤ 4) [
  | true ↦ omega arith
  | false ↦ omega (arith, plan.limits.few_copies)
]

-- at least one if the message is not lost
pub some_copies : (plan : Plan) (m n : ℕ) → is_lost plan m n ≡ false → 0 < copies_of plan m n
some_copies plan m n kept = rw kept (omega arith)

-- a workload number is that of its key
number_of : (job : Job) (n : ℕ) (key : List Value) → 0 < n → n ≤ length job.script.keys → key ≡ key_of job n → IsNumber (rules_of job) n key
number_of job n key some within is =
    record {
      some = some;
      at = slice_get-get_or job.script.keys (n - 1) [] (omega (arith, some, within)) ∙ ap Some (sym is);
    }

-- a message's roles exist
pub message_exists : (x : Expanded) (m : ℕ) → m < length x.messages → IsMessageOf (length x.roles) (length x.params) (message_of x m)
message_exists x m known = All-get_or (IsMessageOf (length x.roles) (length x.params)) x.messages m no_message known x.shape.each_message

-- an emission leaves them like that
pub emitted : EmissionKeepsExplained → (job : Job) (desks : List DeskState) (role n : ℕ) (old new : DeskState) (e : Envelope) → AreSound job desks → AreWhole job desks → 0 < n → n ≤ length job.script.keys → slice_get desks role ≡ Some old → IsKept job role new → IsPlanned job old.store n e → new ≡ after_emission old (Some e) → Emitted job desks n e (slice_set desks role new)
emitted keeps job desks role n old new e sound whole some within at kept plan is =
    let x : Expanded = job.protocol in
    let m : Stamped = e.message in
    let entry : Entry = record { event = Emit m.instance; stamp = m.stamp; number = m.number } in
    let longer : new.store.entries ≡ old.store.entries ++ entry ∷ [] = ap (λ (d : DeskState). d.store.entries) is in
    let held : new.inbox ≡ old.inbox = ap (λ (d : DeskState). d.inbox) is in
    let spare : new.store.spare ≡ old.store.spare - 1 = ap (λ (d : DeskState). d.store.spare) is in
    let acts : acts_of new.store ≡ acts_of old.store ++ Emit m.instance ∷ [] = ap (λ (es : List Entry). map (λ (f : Entry). f.event) es) longer ∙ map-append (λ (f : Entry). f.event) old.store.entries (entry ∷ []) in
    let among : Contains new.store.entries entry = subst (λ h. Contains h entry) (sym longer) (Contains-push old.store.entries entry) in
    let own : (message_of x m.instance.message).sender ≡ role =
    All-contains (λ (f : Entry). role_of x f.event ≡ role) new.store.entries entry (all_of_mapped (λ f. role_of x f ≡ role) (λ (f : Entry). f.event) new.store.entries (local_at job role new kept).own) among in
    let known : m.instance.message < length x.messages = subst (λ (y : Expanded). m.instance.message < length y.messages) (sound.kept.each role old at).protocol_is plan.emission.fits.known in
    let mid_sound = emission_sound keeps job desks role old new entry m.instance sound at kept longer refl (ap (λ b. b.envelopes) held) in
    record {
      sound = mid_sound;
      grown = grow desks role old new (entry ∷ []) at longer;
      sent = record {
        emission = entry;
        numbered = subst (λ h. slice_get h m.number ≡ Some entry) (sym (ap (history_at (histories_of (slice_set desks role new))) own ∙ history_here desks role old new at ∙ longer))
            (subst (λ k. slice_get (old.store.entries ++ entry ∷ []) k ≡ Some entry) (sym plan.emission.number_is) (item_last old.store.entries entry));
        emitted = refl;
        stamped = refl;
      };
      but = but_after (λ i. ⊥) (λ i. m.instance ≡ i) job desks role old new at
          (λ i found. elim (Contains-push_cases (acts_of old.store) (Emit m.instance) (Emit i) (subst (λ es. Contains es (Emit i)) acts found)) [
            | inl early ↦ inl early
            | inr same ↦ inr (ap instance_in same)
          ])
          (λ i none. absurd none)
          (λ i arrives. elim arrives [
            | inl was ↦ inl (subst (λ es. Contains es (Receive i)) (sym acts) (Contains-append_left (acts_of old.store) (Emit m.instance ∷ []) (Receive i) was))
            | inr waits ↦ inr (subst (λ b. Contains (map (λ (f : Envelope). f.message.instance) b.envelopes) i) (sym held) waits)
          ])
          (whole_but job desks whole);
      work =
          let sums = sum_by-set work_of desks role new old (slice_get_within desks role old at) in
          let was = ap work_of (get_or_from_slice_get desks role old old at) in
          let copies : copies_in new.inbox.envelopes ≡ copies_in old.inbox.envelopes = ap (λ b. copies_in b.envelopes) held in
          omega (arith, sums, was, spare, copies, (sound.kept.each role old at).room);
      to = sym plan.to;
      within = omega (arith, plan.to, (message_exists x m.instance.message known).known_receiver, sound.kept.count, length-set desks role new);
      number = number_of job n m.instance.key some within plan.emission.key_is;
      copies = plan.copies;
    }
  where
    instance_in : Event → Instance
    instance_in (Emit i) = i
    instance_in (Receive i) = i

-- after the envelope was put all arrive, and less is left to do
pub put_done : (job : Job) (desks mid : List DeskState) (n : ℕ) (e : Envelope) (old new : DeskState) → Emitted job desks n e mid → slice_get mid e.to ≡ Some old → IsKept job e.to new → new.store ≡ old.store → new.inbox.envelopes ≡ put_last old.inbox.envelopes e → Extend job desks (slice_set mid e.to new) × IsProgress job desks true (slice_set mid e.to new)
put_done job desks mid n e old new emitted at kept same put = (
  record {
    sound = inbox_sound job mid e.to old new emitted.sound at kept same
        (subst (λ es. All (λ (f : Envelope). IsSent job.protocol (histories_of mid) f.message) es) (sym put)
        (put_all (λ (f : Envelope). IsSent job.protocol (histories_of mid) f.message) old.inbox.envelopes e (emitted.sound.sent e.to old at) (λ some. emitted.sent)));
    grow = grow_twice (histories_of desks) (histories_of mid) (histories_of (slice_set mid e.to new)) emitted.grown
        (grow mid e.to old new [] at (ap (λ (s : StoreState). s.entries) same ∙ sym (append-nil old.store.entries)));
  },
  record {
    whole = put_whole job mid e.to old new e.message.instance at same
        (λ i arrives. elim arrives [
          | inl was ↦ inl (subst (λ (s : StoreState). Contains (acts_of s) (Receive i)) (sym same) was)
          | inr waits ↦ inr (subst (λ es. Contains (map (λ (f : Envelope). f.message.instance) es) i) (sym put) (put_keeps old.inbox.envelopes e i waits))
        ])
        emitted.to
        (λ survives. inr (subst (λ es. Contains (map (λ (f : Envelope). f.message.instance) es) e.message.instance) (sym put)
        (put_holds old.inbox.envelopes e (subst (λ k. 0 < k) (sym emitted.copies) (some_copies job.plan e.message.instance.message n (survives n emitted.number))))))
        emitted.but;
    less = λ acted.
        let sums = sum_by-set work_of mid e.to new old (slice_get_within mid e.to old at) in
        let was = ap work_of (get_or_from_slice_get mid e.to old old at) in
        let spare : new.store.spare ≡ old.store.spare = ap (λ (s : StoreState). s.spare) same in
        let more : copies_in new.inbox.envelopes ≡ copies_in old.inbox.envelopes + e.copies = ap copies_in put ∙ put_copies old.inbox.envelopes e in
        omega (arith, sums, was, spare, more, emitted.work, emitted.copies, few_copies job.plan e.message.instance.message n);
    same = λ rested. absurd (cc);
  },
)

-- if it could not be put the desks are still sound
pub put_failed : (job : Job) (desks mid : List DeskState) (n : ℕ) (e : Envelope) (old new : DeskState) → Emitted job desks n e mid → slice_get mid e.to ≡ Some old → new ≡ old → Extend job desks (slice_set mid e.to new)
put_failed job desks mid n e old new emitted at same =
    subst (Extend job desks) (sym (set_same mid e.to new (at ∙ ap Some (sym same)))) (record { sound = emitted.sound; grow = emitted.grown })

-- nothing was emitted since nothing could be
pub none_emitted : (job : Job) (desks : List DeskState) (role n : ℕ) (old : DeskState) → AreSound job desks → slice_get desks role ≡ Some old → IsNextEnvelope job old.store n None → IsNext job old.store n None
none_emitted job desks role n old sound at (inl none) = none
none_emitted job desks role n old sound at (inr clock) = absurd (omega (arith, clock, clock_bounded job.protocol desks role old sound.run at, run_short job desks sound.run sound.kept))
