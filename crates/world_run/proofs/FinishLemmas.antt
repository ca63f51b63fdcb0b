-- Idle desks at which all that is emitted arrives are finished.
use Rattle.std.proofs.Common.{◌≡◌, ◌≢◌, ℕ, ◌-◌, ◌<◌, ◌≤◌, inl, inr, false, Some, List, [], length, map, refl, sym, ap, ◌∙◌, subst, arith, All, Contains}
use Rattle.std.specs.Prelude.{slice_get}
use Rattle.std.specs.List.{AllPairs}
use Rattle.std.proofs.lemmas.List.Elements.{All-contains}
use Rattle.std.proofs.lemmas.Option.{get_or_from_slice_get, slice_get_cases, slice_get_within}
use Rattle.list_base.proofs.Members.{nowhere}
use Rattle.list_base.proofs.Membership.{one_index}
use Rattle.bspl_types.specs.declared.envelope.Envelope.{Envelope}
use Rattle.bspl_types.specs.declared.event.Event.{Event}
use Rattle.bspl_types.specs.declared.event.Event.TheVariants.{Emit, Receive}
use Rattle.bspl_types.specs.declared.event.Instance.{Instance}
use Rattle.bspl_types.specs.declared.expanded.Expanded.{Expanded}
use Rattle.bspl_types.specs.declared.value.Value.{Value}
use Rattle.bspl_types.specs.Expansion.{message_of}
use Rattle.bspl_types.specs.History.{instance_of}
use Rattle.bspl_types.specs.Instance.{Fits}
use Rattle.bspl_types.specs.Knowledge.{CanEmit}
use Rattle.enactment_model.specs.Liveness.{IsEmitted}
use Rattle.adapter.specs.Desk.{DeskState}
use Rattle.adapter.specs.Kept.{IsKept}
use Rattle.adapter.specs.Next.{IsPassedOver}
use Rattle.adapter.specs.Rules.{key_of, rules_of}
use Rattle.agent_scripts.specs.Job.{Job}
use Rattle.agent_scripts.specs.Laws.{FitsProtocol}
use Rattle.agent_scripts.specs.Script.{is_declined}
use Rattle.local_store.specs.State.{acts_of}
use Rattle.stamped_history.specs.PlayedLaws.{HistoriesSettle}
use Rattle.stamped_history.specs.Rules.{IsNumber}
use Rattle.reorder_net.specs.Losses.{is_lost}
use Rattle.stamped_history.specs.Entries.{events_of}
use Rattle.stamped_history.specs.Explained.{history_at}
use Rattle.world_run.specs.inner.Ending.{AreEnded}
use Rattle.world_run.specs.Laws.{MergePlayed}
use Rattle.world_run.specs.World.{histories_of}
use Rattle.world_run.specs.inner.Idle.{AreIdle}
use Rattle.world_run.specs.inner.InProgress.{AreSound, AreWhole, Survives}
use Rattle.world_run.proofs.EmitLemmas.{message_exists}
use Rattle.world_run.proofs.WorldLemmas.{all_items, history_is, history_past}

-- a key has one number
pub number_once : (job : Job) (n m : ℕ) (key : List Value) → AllPairs ◌≢◌ job.script.keys → IsNumber (rules_of job) n key → IsNumber (rules_of job) m key → n ≡ m
number_once job n m key distinct is also =
    let same : n - 1 ≡ m - 1 = one_index job.script.keys (n - 1) (m - 1) key distinct is.at also.at in
    omega (arith, same, is.some, also.some)

-- a number that loses nothing of its key's message shows that the message is not lost
survives_at : (job : Job) (n : ℕ) (i : Instance) → AllPairs ◌≢◌ job.script.keys → IsNumber (rules_of job) n i.key → is_lost job.plan i.message n ≡ false → Survives job i
survives_at job n i distinct is kept m also = subst (λ k. is_lost job.plan i.message k ≡ false) (number_once job n m i.key distinct is also) kept

module _ (job : Job) (desks : List DeskState) (distinct : AllPairs ◌≢◌ job.script.keys) (fits : FitsProtocol job.protocol job.script) (sound : AreSound job desks) (whole : AreWhole job desks) (idle : AreIdle job desks) where
  -- no inbox holds an envelope, since there is a workload key
  holds_none : 0 < length job.script.keys → All (λ d. d.inbox.envelopes ≡ []) desks
  holds_none some = all_items (λ (d : DeskState). d.inbox.envelopes ≡ []) desks (λ role d at. (idle role d at 1 (record { some = omega arith; within = omega (arith, some) })).empty)

  -- what is emitted is received
  delivered : (n : ℕ) (i : Instance) → 0 < length job.script.keys → IsNumber (rules_of job) n i.key → Contains (events_of (history_at (histories_of desks) (message_of job.protocol i.message).sender)) (Emit i) → is_lost job.plan i.message n ≡ false → Contains (events_of (history_at (histories_of desks) (message_of job.protocol i.message).receiver)) (Receive i)
  delivered n i some number among kept =
      let sender : ℕ = (message_of job.protocol i.message).sender in
      let receiver : ℕ = (message_of job.protocol i.message).receiver in
      elim (slice_get_cases desks sender).1 [
        | inl found ↦
            let d : DeskState = found.0 in
            let here : Contains (acts_of d.store) (Emit i) = subst (λ h. Contains (events_of h) (Emit i)) (history_is desks sender d found.2) among in
            let fits_i : Fits job.protocol i = fitting sender d found.2 here in
            elim (slice_get_cases desks receiver).1 [
              | inl other ↦
                  let r : DeskState = other.0 in
                  subst (λ h. Contains (events_of h) (Receive i)) (sym (history_is desks receiver r other.2))
                  (elim (whole sender d found.2 i r here (survives_at job n i distinct number kept) other.2) [
                    | inl received ↦ received
                    | inr waits ↦ absurd (nowhere i (subst (λ es. Contains (map (λ (f : Envelope). f.message.instance) es) i) (idle receiver r other.2 1 (record { some = omega arith; within = omega (arith, some) })).empty waits))
                  ])
              | inr past ↦ absurd (omega (arith, past.0, (message_exists job.protocol i.message fits_i.known).known_receiver, sound.kept.count))
            ]
        | inr past ↦ absurd (nowhere (Emit i) (subst (λ h. Contains (events_of h) (Emit i)) (history_past desks sender past.0) among))
      ]
    where
      fitting : (role : ℕ) (d : DeskState) → slice_get desks role ≡ Some d → Contains (acts_of d.store) (Emit i) → Fits job.protocol i
      fitting role d at here = subst (λ (y : Expanded). Fits y i) (sound.kept.each role d at).protocol_is
          (All-contains (λ (f : Event). Fits d.store.protocol (instance_of f)) (acts_of d.store) (Emit i) (sound.kept.each role d at).consistent.local.fits here)

  -- what is not declined and was never emitted cannot be emitted
  exhausted : (n m : ℕ) (key : List Value) → IsNumber (rules_of job) n key → is_declined job.script m n ≡ false → (IsEmitted (events_of (history_at (histories_of desks) (message_of job.protocol m).sender)) key m → ⊥) → CanEmit job.protocol (events_of (history_at (histories_of desks) (message_of job.protocol m).sender)) m key → ⊥
  exhausted n m key number accepted never can =
      let sender : ℕ = (message_of job.protocol m).sender in
      let known : sender < length desks = omega (arith, (message_exists job.protocol m can.known).known_sender, sound.kept.count) in
      elim (slice_get_cases desks sender).1 [
        | inl found ↦
            let d : DeskState = found.0 in
            let is : IsKept job sender d = sound.kept.each sender d found.2 in
            let history : history_at (histories_of desks) sender ≡ d.store.entries = history_is desks sender d found.2 in
            let next : All (IsPassedOver job.script d.store n (key_of job n)) ((rules_of job).order d.store.role) =
            (idle sender d found.2 n (record { some = number.some; within = last_number n (slice_get_within job.script.keys (n - 1) key number.at) number.some })).done in
            elim (slice_get_cases job.script.orders sender).1 [
              | inl order ↦
                  let order_is : (rules_of job).order d.store.role ≡ order.0 = ap (rules_of job).order is.role_is ∙ get_or_from_slice_get job.script.orders sender order.0 [] order.2 in
                  let tried : Contains order.0 m = fits.whole sender order.0 order.2 m (can.known, refl) in
                  let passed : IsPassedOver job.script d.store n (key_of job n) m = All-contains (IsPassedOver job.script d.store n (key_of job n)) order.0 m (subst (All (IsPassedOver job.script d.store n (key_of job n))) order_is next) tried in
                  passed_over d history is (subst (λ k. IsPassedOver job.script d.store n k m) (get_or_from_slice_get job.script.keys (n - 1) key [] number.at) passed)
              | inr past ↦ absurd (omega (arith, past.0, fits.roles, (message_exists job.protocol m can.known).known_sender))
            ]
        | inr past ↦ absurd (omega (arith, past.0, known))
      ]
    where
      last_number : (k : ℕ) → k - 1 < length job.script.keys → 0 < k → k ≤ length job.script.keys
      last_number k within some = omega (arith, within, some)

      passed_over : (d : DeskState) → history_at (histories_of desks) (message_of job.protocol m).sender ≡ d.store.entries → IsKept job (message_of job.protocol m).sender d → IsPassedOver job.script d.store n key m → ⊥
      passed_over d history is (inl declined) = absurd (grind (arith, declined, accepted))
      passed_over d history is (inr (inl was)) = never (subst (λ h. IsEmitted (events_of h) key m) (sym history) was)
      passed_over d history is (inr (inr cannot)) = cannot (subst (λ (y : Expanded). CanEmit y (acts_of d.store) m key) (sym is.protocol_is) (subst (λ h. CanEmit job.protocol (events_of h) m key) history can))

  -- the desks are finished
  pub finished : 0 < length job.script.keys → HistoriesSettle → MergePlayed job desks → AreEnded job desks
  finished some settle merge =
      let histories = merge.run_is.histories_kept in
      record {
        empty = holds_none some;
        finished = record {
          local = merge.local;
          explained = sound.explained;
          run = merge.run;
          merged = merge.merged;
          played_out = record {
            run_is = merge.run_is;
            played = merge.played;
            settled = settle job.protocol (rules_of job) merge.run (record {
              delivered = λ n i number among kept.
                  subst (λ h. Contains h (Receive i)) (sym (histories (message_of job.protocol i.message).receiver))
                  (delivered n i some number (subst (λ h. Contains h (Emit i)) (histories (message_of job.protocol i.message).sender) among) kept);
              exhausted = λ n m key number accepted never can.
                  exhausted n m key number accepted
                  (λ was. never (subst (λ h. IsEmitted h key m) (sym (histories (message_of job.protocol m).sender)) was))
                  (subst (λ h. CanEmit job.protocol h m key) (histories (message_of job.protocol m).sender) can);
            });
          };
        };
      }
