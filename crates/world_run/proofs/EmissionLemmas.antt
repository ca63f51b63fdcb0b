-- An entry that is an emission, and what is undelivered of it.
use Rattle.std.proofs.Common.{◌≡◌, ◌≢◌, ℕ, ◌+◌, ◌<◌, inl, true, false, Some, List, ◌∷◌, ◌++◌, length, take, drop, refl, sym, ap, ◌∙◌, subst, arith, option_map, Contains}
use Rattle.std.specs.Prelude.{if◌then◌else◌, slice_get}
use Rattle.std.specs.List.{AllPairs}
use Rattle.std.proofs.lemmas.List.{drop_more, length-take-le, take-append-drop}
use Rattle.std.proofs.lemmas.List.Elements.{All-contains}
use Rattle.std.proofs.lemmas.Option.{get_or_from_slice_get, slice_get-map, slice_get_within}
use Rattle.list_base.proofs.Membership.{member_at}
use Rattle.bspl_types.specs.declared.envelope.Envelope.{Envelope}
use Rattle.bspl_types.specs.declared.event.Event.{Event}
use Rattle.bspl_types.specs.declared.event.Event.TheVariants.{Emit, Receive}
use Rattle.bspl_types.specs.declared.event.Instance.{Instance}
use Rattle.bspl_types.specs.Expansion.{message_of}
use Rattle.bspl_types.specs.History.{instance_of, role_of}
use Rattle.bspl_types.specs.Instance.{Fits}
use Rattle.adapter.specs.Desk.{DeskState}
use Rattle.adapter.specs.Rules.{rules_of}
use Rattle.agent_scripts.specs.Job.{Job}
use Rattle.local_store.specs.State.{acts_of, stamped_events, StoreState}
use Rattle.stamped_history.specs.Rules.{IsNumber}
use Rattle.reorder_net.specs.Losses.{copies_of, is_lost}
use Rattle.stamped_history.specs.declared.entry.Entry.{Entry}
use Rattle.stamped_history.specs.Entries.{events_of}
use Rattle.stamped_history.specs.Explained.{history_at}
use Rattle.stamped_history.specs.Local.{IsLocal, MayEmit, MayFollowAs}
use Rattle.world_run.specs.World.{histories_of}
use Rattle.world_run.specs.inner.Undelivered.{CanBePosted, EntryArrives, OwesNothing}
use Rattle.world_run.specs.inner.InProgress.{Arrives, AreSound, Survives}
use Rattle.world_run.proofs.EmitLemmas.{some_copies}
use Rattle.world_run.proofs.EntryLemmas.{pair_is}
use Rattle.world_run.proofs.FinishLemmas.{number_once}
use Rattle.world_run.proofs.RenewalLemmas.{lost_none, receipt_none, received_none}
use Rattle.world_run.proofs.UndeliveredLemmas.{emitted_in, received_is}
use Rattle.world_run.proofs.WorldLemmas.{history_is, local_at}
use Rattle.enactment_model.specs.Liveness.{IsReceived}

-- an entry of the role's history as its store shows it
pub record SeenAt (desks : List DeskState) (role k : ℕ) (d : DeskState) (entry : Entry) (event : Event) (stamp : ℕ) : Type 0 where
  pub at : slice_get d.store.entries k ≡ Some entry
  pub event_is : entry.event ≡ event
  pub stamp_is : entry.stamp ≡ stamp

-- a store shows it like that
pub seen : (desks : List DeskState) (role k : ℕ) (d : DeskState) (store : StoreState) (entry : Entry) (event : Event) (stamp : ℕ) → slice_get desks role ≡ Some d → store ≡ d.store → slice_get {X = Event × ℕ} (stamped_events store) k ≡ Some (event, stamp) → slice_get (history_at (histories_of desks) role) k ≡ Some entry → SeenAt desks role k d entry event stamp
seen desks role k d store entry event stamp desk store_is shown at =
    let here : slice_get d.store.entries k ≡ Some entry = subst (λ h. slice_get h k ≡ Some entry) (history_is desks role d desk) at in
    let pair = pair_is d.store.entries k entry event stamp here (subst (λ (s : StoreState). slice_get {X = Event × ℕ} (stamped_events s) k ≡ Some (event, stamp)) store_is shown) in
    record { at = here; event_is = pair.0; stamp_is = pair.1 }

-- the entry is an emission of the role's at the index
pub record EmissionAt (job : Job) (desks : List DeskState) (role k : ℕ) (d : DeskState) (entry : Entry) (i : Instance) : Type 0 where
  pub desk : slice_get desks role ≡ Some d
  pub at : slice_get d.store.entries k ≡ Some entry
  pub emitted : entry.event ≡ Emit i
  pub among : Contains (acts_of d.store) (Emit i)
  pub fits : Fits job.protocol i
  pub own : (message_of job.protocol i.message).sender ≡ role
  pub workload : Contains job.script.keys i.key
  pub number : entry.number ≡ k

-- an entry with an emission is one
pub emission_at : (job : Job) (desks : List DeskState) (role k : ℕ) (d : DeskState) (entry : Entry) (i : Instance) → AreSound job desks → slice_get desks role ≡ Some d → slice_get d.store.entries k ≡ Some entry → entry.event ≡ Emit i → EmissionAt job desks role k d entry i
emission_at job desks role k d entry i sound desk at emitted =
    let is = sound.kept.each role d desk in
    let local : IsLocal job.protocol role d.store.entries = local_at job role d is in
    let among : Contains (acts_of d.store) (Emit i) = member_at (acts_of d.store) k (Emit i)
    (slice_get-map (λ (e : Entry). e.event) d.store.entries k ∙ ap (option_map (λ (e : Entry). e.event)) at ∙ ap Some emitted) in
    let within : k < length d.store.entries = slice_get_within d.store.entries k entry at in
    let split : d.store.entries ≡ take k d.store.entries ++ entry ∷ drop (k + 1) d.store.entries =
    sym (take-append-drop k d.store.entries)
    ∙ ap (λ rest. take k d.store.entries ++ rest) (drop_more d.store.entries k entry within)
    ∙ ap (λ (e : Entry). take k d.store.entries ++ e ∷ drop (k + 1) d.store.entries) (get_or_from_slice_get d.store.entries k entry entry at) in
    let may : MayEmit job.protocol (take k d.store.entries) i entry.stamp entry.number =
    subst (λ f. MayFollowAs job.protocol (take k d.store.entries) f entry.stamp entry.number) emitted (local.follows (take k d.store.entries) (drop (k + 1) d.store.entries) entry split) in
    record {
      desk = desk;
      at = at;
      emitted = emitted;
      among = among;
      fits = All-contains (λ f. Fits job.protocol (instance_of f)) (acts_of d.store) (Emit i) local.fits among;
      own = All-contains (λ f. role_of job.protocol f ≡ role) (acts_of d.store) (Emit i) local.own among;
      workload = All-contains (λ f. Contains job.script.keys (instance_of f).key) (acts_of d.store) (Emit i) is.played.workload among;
      number = may.own ∙ length-take-le k d.store.entries (omega (arith, within));
    }

-- a receipt owes nothing
receipt_arrives : (job : Job) (desks : List DeskState) (entry : Entry) (j : Instance) → entry.event ≡ Receive j → EntryArrives job desks entry
receipt_arrives job desks entry j received i receiver emitted survives at = absurd (no_receipt (sym received ∙ emitted))
  where
    no_receipt : Receive j ≡ Emit i → ⊥
    no_receipt is = absurd (cc)

-- an emission arrives if its instance does
arrives_of : (job : Job) (desks : List DeskState) (entry : Entry) (i : Instance) → entry.event ≡ Emit i → (Survives job i → (receiver : DeskState) → slice_get desks (message_of job.protocol i.message).receiver ≡ Some receiver → Arrives receiver i) → EntryArrives job desks entry
arrives_of job desks entry i is arrives j receiver emitted survives at =
    subst (λ k. Survives job k → slice_get desks (message_of job.protocol k.message).receiver ≡ Some receiver → Arrives receiver k) (ap emitted_in (sym is ∙ emitted)) (λ s a. arrives s receiver a) survives at

-- nothing is owed of a receipt
pub receipt_owes : (job : Job) (desks : List DeskState) (entry : Entry) (j : Instance) → entry.event ≡ Receive j → OwesNothing job desks entry
receipt_owes job desks entry j received =
    record { arrives = receipt_arrives job desks entry j received; nothing = receipt_none job (histories_of desks) entry j received }

-- one under no workload key is none
pub unnumbered_owes : (job : Job) (desks : List DeskState) (role k : ℕ) (d : DeskState) (entry : Entry) (i : Instance) → EmissionAt job desks role k d entry i → (Contains job.script.keys i.key → ⊥) → OwesNothing job desks entry
unnumbered_owes job desks role k d entry i is none = absurd (none is.workload)

-- one that is lost owes nothing
lost_arrives : (job : Job) (desks : List DeskState) (entry : Entry) (i : Instance) (n : ℕ) → entry.event ≡ Emit i → IsNumber (rules_of job) n i.key → copies_of job.plan i.message n ≡ 0 → EntryArrives job desks entry
lost_arrives job desks entry i n is number none = arrives_of job desks entry i is (λ survives receiver at.
    absurd (omega (arith, none, some_copies job.plan i.message n (survives n number))))

-- nothing is owed of it
pub lost_owes : (job : Job) (desks : List DeskState) (entry : Entry) (i : Instance) (n : ℕ) → AllPairs ◌≢◌ job.script.keys → entry.event ≡ Emit i → IsNumber (rules_of job) n i.key → copies_of job.plan i.message n ≡ 0 → OwesNothing job desks entry
lost_owes job desks entry i n distinct is number none =
    record { arrives = lost_arrives job desks entry i n is number none; nothing = lost_none job (histories_of desks) entry i n distinct is number none }

-- one that was received arrives
received_arrives : (job : Job) (desks : List DeskState) (role k : ℕ) (d : DeskState) (entry : Entry) (i : Instance) (target : DeskState) → AreSound job desks → EmissionAt job desks role k d entry i → slice_get desks (message_of job.protocol i.message).receiver ≡ Some target → IsReceived (acts_of target.store) i.key i.message → EntryArrives job desks entry
received_arrives job desks role k d entry i target sound is target_at got = arrives_of job desks entry i is.emitted (λ survives receiver at.
    let same : target ≡ receiver = sym (get_or_from_slice_get desks (message_of job.protocol i.message).receiver target target target_at) ∙ get_or_from_slice_get desks (message_of job.protocol i.message).receiver receiver target at in
    subst (λ (f : DeskState). Arrives f i) same (inl (received_is job desks role d target i sound is.desk is.own is.among (message_of job.protocol i.message).receiver target_at got)))

-- nothing is owed of it
pub received_owes : (job : Job) (desks : List DeskState) (role k : ℕ) (d : DeskState) (entry : Entry) (i : Instance) (target : DeskState) → AreSound job desks → EmissionAt job desks role k d entry i → slice_get desks (message_of job.protocol i.message).receiver ≡ Some target → IsReceived (acts_of target.store) i.key i.message → OwesNothing job desks entry
received_owes job desks role k d entry i target sound is target_at got =
    record { arrives = received_arrives job desks role k d entry i target sound is target_at got; nothing = received_none job desks entry i target is.emitted target_at got }

-- an envelope with the emission is undelivered otherwise
pub undelivered_of : (job : Job) (desks : List DeskState) (role k : ℕ) (d : DeskState) (entry : Entry) (e : Envelope) (n : ℕ) (target : DeskState) → AllPairs ◌≢◌ job.script.keys → AreSound job desks → EmissionAt job desks role k d entry e.message.instance → e.from ≡ role → e.to ≡ (message_of job.protocol e.message.instance.message).receiver → e.message.stamp ≡ entry.stamp → e.message.number ≡ k → IsNumber (rules_of job) n e.message.instance.key → e.copies ≡ copies_of job.plan e.message.instance.message n → e.copies ≢ 0 → slice_get desks e.to ≡ Some target → (IsReceived (acts_of target.store) e.message.instance.key e.message.instance.message → ⊥) → CanBePosted job desks entry e
undelivered_of job desks role k d entry e n target distinct sound is from to stamp number at_number copies some target_at none =
    let i : Instance = e.message.instance in
    let m : ℕ = i.message in
    record {
      undelivered = record {
        emitted = is.emitted;
        stamp = stamp;
        number = number ∙ sym is.number;
        from = from ∙ sym is.own;
        to = to;
        copies = record { n = n; number = at_number; copies = copies; some = omega (arith, some) };
        unreceived = λ got. none (subst (λ (h : List Entry). IsReceived (events_of h) i.key m) (history_is desks e.to target target_at) got);
      };
      sent = record {
        emission = entry;
        numbered = subst (λ h. slice_get h e.message.number ≡ Some entry) (sym (ap (history_at (histories_of desks)) is.own ∙ history_is desks role d is.desk))
            (subst (λ j. slice_get d.store.entries j ≡ Some entry) (sym number) is.at);
        emitted = is.emitted;
        stamped = sym stamp;
      };
      is_for = record {
        fits = is.fits;
        to_role = refl;
        own = sym to;
        workload = is.workload;
        arrives = λ j also. subst (λ o. is_lost job.plan m o ≡ false) (number_once job n j i.key distinct at_number also) (not_lost (copies_of job.plan m n) copies refl);
        some = omega (arith, some);
      };
      within = slice_get_within desks e.to target target_at;
    }
  where
    not_lost : (c : ℕ) → e.copies ≡ c → c ≡ copies_of job.plan e.message.instance.message n → is_lost job.plan e.message.instance.message n ≡ false
    not_lost c is_c c_is = (elim (is_lost job.plan e.message.instance.message n) as (λ b. c ≡ (if b then 0 else 1 + job.plan.repeat) → b ≡ false) [
      | true ↦ λ zero_is. absurd (some (is_c ∙ zero_is))
      | false ↦ λ more. refl
    ]) c_is
