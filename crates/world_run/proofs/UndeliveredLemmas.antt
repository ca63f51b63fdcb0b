-- Inboxes that are made anew: they are emptied, and what is undelivered is posted.
use Rattle.std.proofs.Common.{◌≡◌, ℕ, ◌+◌, ◌<◌, ◌≤◌, inl, inr, Some, List, [], length, map, refl, sym, ap, ◌∙◌, subst, arith, option_map, get_or, All, Contains}
use Rattle.std.specs.Prelude.{slice_get, slice_set}
use Rattle.std.specs.List.{AllPairs}
use Rattle.std.proofs.lemmas.Bool.{cases_eq, cases_order}
use Rattle.std.proofs.lemmas.List.{length-map, map-set}
use Rattle.std.proofs.lemmas.Simd.{map-map}
use Rattle.std.proofs.lemmas.List.Elements.{All-get_or, All-nil}
use Rattle.std.proofs.lemmas.Option.{get_or_from_slice_get, slice_get-get_or, slice_get-map, slice_get_cases, slice_get_within}
use Rattle.list_base.proofs.Membership.{index_of, member_at}
use Rattle.list_base.proofs.Pigeonhole.{parted}
use Rattle.bspl_types.specs.declared.envelope.Envelope.{Envelope}
use Rattle.bspl_types.specs.declared.event.Event.{Event}
use Rattle.bspl_types.specs.declared.event.Event.TheVariants.{Emit, Receive}
use Rattle.bspl_types.specs.declared.event.Instance.{Instance}
use Rattle.bspl_types.specs.Expansion.{message_of}
use Rattle.adapter.specs.Desk.{DeskState}
use Rattle.adapter.specs.Kept.{AreDistinctEvents, IsFor, IsKept}
use Rattle.adapter.specs.Pending.{messages_of, pairs_of, pending}
use Rattle.adapter.specs.Rules.{rules_of}
use Rattle.agent_scripts.specs.Job.{Job}
use Rattle.local_store.specs.Consistent.{IsConsistent}
use Rattle.local_store.specs.State.{acts_of, StoreState}
use Rattle.stamped_history.specs.Played.{Played}
use Rattle.reorder_net.specs.Inbox.{put_last}
use Rattle.stamped_history.specs.declared.entry.Entry.{Entry}
use Rattle.stamped_history.specs.Explained.{AreExplained, history_at, IsExplained}
use Rattle.world_run.specs.Course.{AreSteps}
use Rattle.world_run.specs.Laws.{MergePlayed}
use Rattle.world_run.specs.Renewal.{AreCleared, Reposts, RepostsAll}
use Rattle.world_run.specs.Sent.{IsSent}
use Rattle.world_run.specs.World.{AreKept, HistoriesGrow, histories_of}
use Rattle.world_run.specs.inner.Undelivered.{ArePosted, ArriveUpTo, CanBePosted, EntryArrives, HasMore}
use Rattle.world_run.specs.inner.InProgress.{Arrives, AreSound, AreWhole, Extend}
use Rattle.world_run.proofs.CourseLemmas.{step_more}
use Rattle.world_run.proofs.GrowLemmas.{grow_none, histories_same}
use Rattle.world_run.proofs.InboxLemmas.{put_all, put_holds, put_keeps}
use Rattle.world_run.proofs.SetLemmas.{item_after, set_same}
use Rattle.world_run.proofs.SoundLemmas.{inbox_sound}
use Rattle.world_run.proofs.WorldLemmas.{all_items, history_is}
use Rattle.enactment_model.specs.Liveness.{IsReceived}

-- nothing was posted
pub posted_none : (job : Job) (desks : List DeskState) → AreSound job desks → ArePosted job desks desks
posted_none job desks sound =
    record {
      sound = sound;
      histories = refl;
      each = λ role d at. (d, at, record { same = refl; arrive = λ i arrives. arrives });
    }

-- first the one and then the other
pub posted_twice : (job : Job) (old mid new : List DeskState) → ArePosted job old mid → ArePosted job mid new → ArePosted job old new
posted_twice job old mid new first second =
    record {
      sound = second.sound;
      histories = second.histories ∙ first.histories;
      each = λ role d at.
          let here = second.each role d at in
          let before = first.each role here.0 here.1 in (
            before.0,
            before.1,
            record {
              same = here.2.same ∙ before.2.same;
              arrive = λ i arrives. here.2.arrive i (before.2.arrive i arrives);
            },
          );
    }

-- what arrives still does
pub arrives_later : (job : Job) (old new : List DeskState) (e : Entry) → ArePosted job old new → EntryArrives job old e → EntryArrives job new e
arrives_later job old new e posted arrives i receiver emitted survives at =
    let before = posted.each (message_of job.protocol i.message).receiver receiver at in
    before.2.arrive i (arrives i before.0 emitted survives before.1)

-- the first entries too
pub up_to_later : (job : Job) (old new : List DeskState) (role count : ℕ) → ArePosted job old new → ArriveUpTo job old role count → ArriveUpTo job new role count
up_to_later job old new role count posted arrive k e within at =
    arrives_later job old new e posted (arrive k e within (subst (λ hs. slice_get (history_at hs role) k ≡ Some e) posted.histories at))

-- an envelope was posted
pub posted_one : (job : Job) (desks : List DeskState) (e : Envelope) (old new : DeskState) → AreSound job desks → slice_get desks e.to ≡ Some old → IsKept job e.to new → new.store ≡ old.store → IsSent job.protocol (histories_of desks) e.message → new.inbox.envelopes ≡ put_last old.inbox.envelopes e → ArePosted job desks (slice_set desks e.to new)
posted_one job desks e old new sound at kept same sent put =
    record {
      sound = inbox_sound job desks e.to old new sound at kept same
          (subst (λ es. All (λ (f : Envelope). IsSent job.protocol (histories_of desks) f.message) es) (sym put)
          (put_all (λ (f : Envelope). IsSent job.protocol (histories_of desks) f.message) old.inbox.envelopes e (sound.sent e.to old at) (λ some. sent)));
      histories = histories_same desks e.to old new at (ap (λ (s : StoreState). s.entries) same);
      each = λ role d d_at. elim (item_after desks e.to new role d d_at) [
        | inl here ↦ (
          old,
          subst (λ k. slice_get desks k ≡ Some old) (sym here.0) at,
          subst (HasMore old) here.1 (record {
            same = same;
            arrive = λ i arrives. elim arrives [
              | inl was ↦ inl (subst (λ (s : StoreState). Contains (acts_of s) (Receive i)) (sym same) was)
              | inr waits ↦ inr (subst (λ es. Contains (map (λ (f : Envelope). f.message.instance) es) i) (sym put) (put_keeps old.inbox.envelopes e i waits))
            ];
          }),
        )
        | inr there ↦ (d, there.1, record { same = refl; arrive = λ i arrives. arrives })
      ];
    }

-- it could not be
pub posted_failed : (job : Job) (desks : List DeskState) (e : Envelope) (old new : DeskState) → AreSound job desks → slice_get desks e.to ≡ Some old → new ≡ old → ArePosted job desks (slice_set desks e.to new)
posted_failed job desks e old new sound at same =
    subst (ArePosted job desks) (sym (set_same desks e.to new (at ∙ ap Some (sym same)))) (posted_none job desks sound)

-- what an event emits
abbrev pub emitted_in : Event → Instance
emitted_in (Emit i) = i
emitted_in (Receive i) = i

-- the emission of a posted envelope arrives
pub undelivered_arrives : (job : Job) (desks : List DeskState) (entry : Entry) (e : Envelope) (old new : DeskState) → CanBePosted job desks entry e → slice_get desks e.to ≡ Some old → new.inbox.envelopes ≡ put_last old.inbox.envelopes e → EntryArrives job (slice_set desks e.to new) entry
undelivered_arrives job desks entry e old new undelivered at put i receiver emitted survives r_at =
    let is : e.message.instance ≡ i = ap emitted_in (sym undelivered.undelivered.emitted ∙ emitted) in
    elim (item_after desks e.to new (message_of job.protocol i.message).receiver receiver r_at) [
      | inl here ↦ subst (λ (f : DeskState). Arrives f i) here.1 (inr (subst (λ es. Contains (map (λ (f : Envelope). f.message.instance) es) i) (sym put)
          (subst (λ j. Contains (map (λ (f : Envelope). f.message.instance) (put_last old.inbox.envelopes e)) j) is (put_holds old.inbox.envelopes e undelivered.is_for.some))))
      | inr there ↦ absurd (there.0 (ap (λ (j : Instance). (message_of job.protocol j.message).receiver) (sym is) ∙ undelivered.is_for.own))
    ]

-- an event of a history is that of an entry
entry_of : (entries : List Entry) (f : Event) → Contains (map (λ e. e.event) entries) f → (k : ℕ) × (e : Entry) × (slice_get entries k ≡ Some e) × (e.event ≡ f)
entry_of entries f among =
    let index = index_of (map (λ (e : Entry). e.event) entries) f among in
    elim (slice_get_cases entries index.0).1 [
      | inl found ↦ (
        index.0,
        found.0,
        found.2,
        sym (get_or_from_slice_get (map (λ (e : Entry). e.event) entries) index.0 found.0.event f
            (slice_get-map (λ (e : Entry). e.event) entries index.0 ∙ ap (option_map (λ (e : Entry). e.event)) found.2))
            ∙ get_or_from_slice_get (map (λ (e : Entry). e.event) entries) index.0 f f index.1,
      )
      | inr past ↦ absurd (omega (arith, past.0, slice_get_within (map (λ (e : Entry). e.event) entries) index.0 f index.1, length-map entries (λ (e : Entry). e.event)))
    ]

-- the desks are whole if each history's entries arrive
pub whole_of : (job : Job) (desks : List DeskState) → ((role : ℕ) → role < length desks → ArriveUpTo job desks role (length (history_at (histories_of desks) role))) → AreWhole job desks
whole_of job desks arrive role d at i receiver among survives r_at =
    let entry = entry_of d.store.entries (Emit i) among in
    let history = history_is desks role d at in
    let there : slice_get (history_at (histories_of desks) role) entry.0 ≡ Some entry.1 = subst (λ h. slice_get h entry.0 ≡ Some entry.1) (sym history) entry.2 in
    arrive role (slice_get_within desks role d at) entry.0 entry.1 (slice_get_within (history_at (histories_of desks) role) entry.0 entry.1 there) there i receiver entry.3 survives r_at

-- of two emissions of one message under one key there is one
one_emission : (acts : List Event) (i j : Instance) → AllPairs AreDistinctEvents acts → Contains acts (Emit i) → Contains acts (Emit j) → i.key ≡ j.key → i.message ≡ j.message → i ≡ j
one_emission acts i j apart first second key message = elim (cases_order first.0 second.0) [
  | inl same ↦ ap emitted_in (sym first.2 ∙ ap (λ k. get_or acts k (Emit i)) same ∙ one_default acts second.0 (Emit i) (Emit j) second.1 ∙ second.2)
  | inr differ ↦ elim differ [
    | inl lower ↦ absurd (subst (λ (f : Event). AreDistinctEvents f (Emit j)) first.2 (subst (λ (f : Event). AreDistinctEvents (get_or acts first.0 (Emit i)) f) (one_default acts second.0 (Emit i) (Emit j) second.1 ∙ second.2) (apart first.0 second.0 (Emit i) lower second.1)) key message)
    | inr higher ↦ absurd (subst (λ (f : Event). AreDistinctEvents f (Emit i)) (one_default acts second.0 (Emit i) (Emit j) second.1 ∙ second.2) (subst (λ (f : Event). AreDistinctEvents (get_or acts second.0 (Emit i)) f) first.2 (apart second.0 first.0 (Emit i) higher first.1)) (sym key) (sym message))
  ]
]
  where
    one_default : (xs : List Event) (k : ℕ) (d e : Event) → k < length xs → get_or xs k d ≡ get_or xs k e
    one_default xs k d e within = get_or_from_slice_get xs k (get_or xs k e) d (slice_get-get_or xs k e within)

-- what a receiver has of a message under a key is what was emitted
pub received_is : (job : Job) (desks : List DeskState) (role : ℕ) (sender receiver : DeskState) (i : Instance) → AreSound job desks → slice_get desks role ≡ Some sender → (message_of job.protocol i.message).sender ≡ role → Contains (acts_of sender.store) (Emit i) → (r : ℕ) → slice_get desks r ≡ Some receiver → IsReceived (acts_of receiver.store) i.key i.message → Contains (acts_of receiver.store) (Receive i)
received_is job desks role sender receiver i sound at own emitted r r_at got =
    let j : Instance = got.instance in
    let entry = entry_of receiver.store.entries (Receive j) got.received in
    let history = history_is desks r receiver r_at in
    let parts = parted receiver.store.entries entry.0 entry.1 (slice_get_within receiver.store.entries entry.0 entry.1 entry.2) (get_or_from_slice_get receiver.store.entries entry.0 entry.1 entry.1 entry.2) in
    let by : IsExplained job.protocol (histories_of desks) parts.0 j entry.1 = sound.explained r parts.0 parts.1 entry.1 j (history ∙ parts.2) entry.3 in
    let from : history_at (histories_of desks) (message_of job.protocol j.message).sender ≡ sender.store.entries =
    ap (history_at (histories_of desks)) (ap (λ m. (message_of job.protocol m).sender) got.message_is ∙ own) ∙ history_is desks role sender at in
    let source : slice_get sender.store.entries entry.1.number ≡ Some by.emission = subst (λ h. slice_get h entry.1.number ≡ Some by.emission) from by.numbered in
    let among : Contains (acts_of sender.store) (Emit j) =
    member_at (acts_of sender.store) entry.1.number (Emit j) (slice_get-map (λ (e : Entry). e.event) sender.store.entries entry.1.number ∙ ap (option_map (λ (e : Entry). e.event)) source ∙ ap Some by.emitted) in
    let one : i ≡ j = one_emission (acts_of sender.store) i j (sound.kept.each role sender at).once emitted among (sym got.under) (sym got.message_is) in
    subst (λ k. Contains (acts_of receiver.store) (Receive k)) (sym one) got.received

-- emptied desks
pub cleared_kept : (job : Job) (old new : List DeskState) → AreKept job old → AreCleared old new → AreKept job new
cleared_kept job old new kept cleared =
    record {
      count = sym (length-map new (λ (d : DeskState). d.store)) ∙ ap length cleared.stores ∙ length-map old (λ (d : DeskState). d.store) ∙ kept.count;
      each = λ role d at. elim (slice_get_cases old role).1 [
        | inl found ↦ empty_kept role found.0 d (kept.each role found.0 found.2) (store_is role d found.0 at found.2) (empty_at role d at)
        | inr past ↦ absurd (omega (arith, past.0, slice_get_within new role d at, ap length cleared.stores, length-map new (λ (d : DeskState). d.store), length-map old (λ (d : DeskState). d.store)))
      ];
    }
  where
    empty_at : (role : ℕ) (d : DeskState) → slice_get new role ≡ Some d → d.inbox.envelopes ≡ []
    empty_at role d at = subst (λ (f : DeskState). f.inbox.envelopes ≡ []) (get_or_from_slice_get new role d d at)
        (All-get_or (λ (f : DeskState). f.inbox.envelopes ≡ []) new role d (slice_get_within new role d at) cleared.empty)

    store_is : (role : ℕ) (d was : DeskState) → slice_get new role ≡ Some d → slice_get old role ≡ Some was → d.store ≡ was.store
    store_is role d was at was_at =
        sym (get_or_from_slice_get (map (λ (f : DeskState). f.store) new) role d.store d.store (slice_get-map (λ (f : DeskState). f.store) new role ∙ ap (option_map (λ (f : DeskState). f.store)) at))
        ∙ ap (λ ss. get_or ss role d.store) cleared.stores
        ∙ get_or_from_slice_get (map (λ (f : DeskState). f.store) old) role was.store d.store (slice_get-map (λ (f : DeskState). f.store) old role ∙ ap (option_map (λ (f : DeskState). f.store)) was_at)

    empty_kept : (role : ℕ) (was d : DeskState) → IsKept job role was → d.store ≡ was.store → d.inbox.envelopes ≡ [] → IsKept job role d
    empty_kept role was d is same empty =
        record {
          protocol_is = ap (λ (s : StoreState). s.protocol) same ∙ is.protocol_is;
          role_is = ap (λ (s : StoreState). s.role) same ∙ is.role_is;
          consistent = subst IsConsistent (sym same) is.consistent;
          once = subst (λ (s : StoreState). AllPairs AreDistinctEvents (acts_of s)) (sym same) is.once;
          held = subst (λ (s : StoreState). All (Contains s.keys) job.script.keys) (sym same) is.held;
          room = subst (λ (s : StoreState). length (pending (acts_of s) (pairs_of job.script.keys (messages_of job.protocol role))) < s.spare) (sym same) is.room;
          played = subst (λ (s : StoreState). Played job.protocol (rules_of job) (acts_of s)) (sym same) is.played;
          inbox = subst (λ es. All (IsFor job role) es) (sym empty) (All-nil (IsFor job role));
        }

-- the histories are as before
pub cleared_histories : (old new : List DeskState) → AreCleared old new → histories_of new ≡ histories_of old
cleared_histories old new cleared =
    sym (map-map (λ (s : StoreState). s.entries) (λ (d : DeskState). d.store) new)
    ∙ ap (map (λ (s : StoreState). s.entries)) cleared.stores
    ∙ map-map (λ (s : StoreState). s.entries) (λ (d : DeskState). d.store) old

-- emptied desks are sound
pub cleared_sound : (job : Job) (old new : List DeskState) → AreKept job old → AreExplained job.protocol (histories_of old) → MergePlayed job new → AreCleared old new → AreSound job new
cleared_sound job old new kept explained merge cleared =
    let histories = cleared_histories old new cleared in
    record {
      kept = cleared_kept job old new kept cleared;
      explained = subst (AreExplained job.protocol) (sym histories) explained;
      sent = λ role d at. subst (λ es. All (λ (e : Envelope). IsSent job.protocol (histories_of new) e.message) es)
          (sym (subst (λ (f : DeskState). f.inbox.envelopes ≡ []) (get_or_from_slice_get new role d d at) (All-get_or (λ (f : DeskState). f.inbox.envelopes ≡ []) new role d (slice_get_within new role d at) cleared.empty)))
          (All-nil (λ (e : Envelope). IsSent job.protocol (histories_of new) e.message));
      run = record {
        run = merge.run;
        legal = merge.run_is.legal;
        kept = merge.run_is.histories_kept;
        stamps = merge.run_is.stamps;
        count = merge.count;
      };
    }

-- an index within a history is that of an entry
pub item_there : {X : Type 0} (xs : List X) (k : ℕ) → k < length xs → (x : X) × (slice_get xs k ≡ Some x)
item_there xs k within = elim (slice_get_cases xs k).1 [
  | inl found ↦ (found.0, found.2)
  | inr past ↦ absurd (omega (arith, within, past.0))
]

-- what the entries at the first indices of the role's history emit was posted
pub record PostedTo (job : Job) (start desks : List DeskState) (role count : ℕ) : Type 0 where
  pub posted : ArePosted job start desks
  pub arrive : ArriveUpTo job desks role count
  pub steps : AreSteps (Reposts job role) count start desks

-- before the first one
pub posted_start : (job : Job) (desks : List DeskState) (role : ℕ) → AreSound job desks → PostedTo job desks desks role 0
posted_start job desks role sound =
    record { posted = posted_none job desks sound; arrive = λ k e within at. absurd (omega (arith, within)); steps = refl }

-- one more
pub posted_more : (job : Job) (start desks new : List DeskState) (role count : ℕ) → PostedTo job start desks role count → ArePosted job desks new → ((e : Entry) → slice_get (history_at (histories_of desks) role) count ≡ Some e → EntryArrives job new e) → Reposts job role count desks new → PostedTo job start new role (count + 1)
posted_more job start desks new role count before posted arrives step =
    record {
      posted = posted_twice job start desks new before.posted posted;
      arrive = λ k e within at.
          let was : slice_get (history_at (histories_of desks) role) k ≡ Some e = subst (λ hs. slice_get (history_at hs role) k ≡ Some e) posted.histories at in
          elim (cases_eq k count) [
            | inl same ↦ arrives e (subst (λ j. slice_get (history_at (histories_of desks) role) j ≡ Some e) same was)
            | inr other ↦ arrives_later job desks new e posted (before.arrive k e (omega (arith, within, other)) was)
          ];
      steps = step_more (Reposts job role) count start desks new before.steps step;
    }

-- what the entries of the first roles emit was posted
pub record Renewed (job : Job) (start desks : List DeskState) (count : ℕ) : Type 0 where
  pub sound : AreSound job desks
  pub histories : histories_of desks ≡ histories_of start
  pub arrive : (role : ℕ) → role < count → ArriveUpTo job desks role (length (history_at (histories_of desks) role))
  pub emptied : List DeskState
  pub cleared : AreCleared start emptied
  pub steps : AreSteps (RepostsAll job) count emptied desks

-- that of one more role
pub renewed_more : (job : Job) (start desks new : List DeskState) (count : ℕ) → Renewed job start desks count → ArePosted job desks new → ArriveUpTo job new count (length (history_at (histories_of desks) count)) → RepostsAll job count desks new → Renewed job start new (count + 1)
renewed_more job start desks new count before posted arrive steps =
    record {
      sound = posted.sound;
      histories = posted.histories ∙ before.histories;
      arrive = λ role within. subst (λ hs. ArriveUpTo job new role (length (history_at hs role))) (sym posted.histories) (elim (cases_eq role count) [
        | inl same ↦ subst (λ r. ArriveUpTo job new r (length (history_at (histories_of desks) r))) (sym same) arrive
        | inr other ↦ up_to_later job desks new role (length (history_at (histories_of desks) role)) posted (before.arrive role (omega (arith, within, other)))
      ]);
      emptied = before.emptied;
      cleared = before.cleared;
      steps = step_more (RepostsAll job) count before.emptied desks new before.steps steps;
    }

-- equal histories grow
grow_same : (old new : List DeskState) → histories_of new ≡ histories_of old → HistoriesGrow (histories_of old) (histories_of new)
grow_same old new same = subst (HistoriesGrow (histories_of old)) (sym same) (grow_none (histories_of old))

-- the desks extend those at the start
pub renewed_extend : (job : Job) (start desks : List DeskState) (count : ℕ) → Renewed job start desks count → Extend job start desks
renewed_extend job start desks count renewed =
    record { sound = renewed.sound; grow = grow_same start desks renewed.histories }

-- also those that were posted further
pub renewed_posted : (job : Job) (start desks new : List DeskState) (count : ℕ) → Renewed job start desks count → ArePosted job desks new → Extend job start new
renewed_posted job start desks new count renewed posted =
    record { sound = posted.sound; grow = grow_same start new (posted.histories ∙ renewed.histories) }

-- they are whole once all roles are through
pub renewed_whole : (job : Job) (start desks : List DeskState) (count : ℕ) → length desks ≤ count → Renewed job start desks count → AreWhole job desks
renewed_whole job start desks count all renewed = whole_of job desks (λ role within. renewed.arrive role (omega (arith, within, all)))

-- the desks of the first roles have empty inboxes, and no store changed
pub record ClearedTo (start desks : List DeskState) (count : ℕ) : Type 0 where
  pub stores : map (λ (d : DeskState). d.store) desks ≡ map (λ (d : DeskState). d.store) start
  pub empty : (k : ℕ) (d : DeskState) → k < count → slice_get desks k ≡ Some d → d.inbox.envelopes ≡ []
  pub room : (k : ℕ) (before d : DeskState) → slice_get start k ≡ Some before → slice_get desks k ≡ Some d → before.inbox.spare ≤ d.inbox.spare
  pub rest : (k : ℕ) (d : DeskState) → count ≤ k → slice_get desks k ≡ Some d → slice_get start k ≡ Some d

-- one item at an index
one_item : (desks : List DeskState) (k : ℕ) (a b : DeskState) → slice_get desks k ≡ Some a → slice_get desks k ≡ Some b → a ≡ b
one_item desks k a b at other = sym (get_or_from_slice_get desks k a a at) ∙ get_or_from_slice_get desks k b a other

-- before the first one
pub cleared_start : (desks : List DeskState) → ClearedTo desks desks 0
cleared_start desks =
    record {
      stores = refl;
      empty = λ k d within at. absurd (omega (arith, within));
      room = λ k before d at other. omega (arith, ap (λ (f : DeskState). f.inbox.spare) (one_item desks k before d at other));
      rest = λ k d past at. at;
    }

-- one more
pub cleared_more : (start desks : List DeskState) (count : ℕ) (old new : DeskState) → ClearedTo start desks count → slice_get desks count ≡ Some old → new.store ≡ old.store → new.inbox.envelopes ≡ [] → old.inbox.spare ≤ new.inbox.spare → ClearedTo start (slice_set desks count new) (count + 1)
cleared_more start desks count old new before at same empty room =
    record {
      stores =
          map-set (λ (d : DeskState). d.store) desks count new
          ∙ set_same (map (λ (d : DeskState). d.store) desks) count new.store (slice_get-map (λ (d : DeskState). d.store) desks count ∙ ap (option_map (λ (d : DeskState). d.store)) at ∙ ap Some (sym same))
          ∙ before.stores;
      empty = λ k d within d_at. elim (item_after desks count new k d d_at) [
        | inl here ↦ subst (λ (f : DeskState). f.inbox.envelopes ≡ []) here.1 empty
        | inr there ↦ before.empty k d (omega (arith, within, there.0)) there.1
      ];
      room = λ k first d first_at d_at. elim (item_after desks count new k d d_at) [
        | inl here ↦
            let first_is : first ≡ old = one_item start k first old first_at (subst (λ i. slice_get start i ≡ Some old) (sym here.0) (before.rest count old (omega (arith)) at)) in
            omega (arith, room, ap (λ (f : DeskState). f.inbox.spare) first_is, ap (λ (f : DeskState). f.inbox.spare) here.1)
        | inr there ↦ before.room k first d first_at there.1
      ];
      rest = λ k d past d_at. elim (item_after desks count new k d d_at) [
        | inl here ↦ absurd (omega (arith, past, here.0))
        | inr there ↦ before.rest k d (omega (arith, past)) there.1
      ];
    }

-- all
pub cleared_all : (start desks : List DeskState) (count : ℕ) → length desks ≤ count → ClearedTo start desks count → AreCleared start desks
cleared_all start desks count all cleared =
    record {
      stores = cleared.stores;
      empty = all_items (λ (d : DeskState). d.inbox.envelopes ≡ []) desks (λ k d at. cleared.empty k d (omega (arith, all, slice_get_within desks k d at)) at);
      room = cleared.room;
    }

-- as many desks as before
pub cleared_length : (start desks : List DeskState) (count : ℕ) → ClearedTo start desks count → length desks ≡ length start
cleared_length start desks count cleared =
    sym (length-map desks (λ (d : DeskState). d.store)) ∙ ap length cleared.stores ∙ length-map start (λ (d : DeskState). d.store)
