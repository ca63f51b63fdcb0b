-- What is undelivered of an entry, and stores that posting keeps.
use Rattle.std.proofs.Common.{◌≡◌, ◌≢◌, ℕ, zero, suc, Option, None, Some, List, length, map, sym, ap, ◌∙◌, subst, arith, option_map}
use Rattle.std.specs.Prelude.{slice_get}
use Rattle.std.specs.List.{AllPairs}
use Rattle.std.proofs.lemmas.List.{map-set}
use Rattle.std.proofs.lemmas.Option.{slice_get-map}
use Rattle.bspl_types.specs.declared.envelope.Envelope.{Envelope}
use Rattle.bspl_types.specs.declared.event.Event.TheVariants.{Emit, Receive}
use Rattle.bspl_types.specs.declared.event.Instance.{Instance}
use Rattle.bspl_types.specs.Expansion.{message_of}
use Rattle.adapter.specs.Desk.{DeskState}
use Rattle.adapter.specs.Rules.{rules_of}
use Rattle.agent_scripts.specs.Job.{Job}
use Rattle.local_store.specs.State.{acts_of, StoreState}
use Rattle.reorder_net.specs.Losses.{copies_of}
use Rattle.stamped_history.specs.declared.entry.Entry.{Entry}
use Rattle.stamped_history.specs.Entries.{events_of}
use Rattle.stamped_history.specs.Explained.{history_at}
use Rattle.stamped_history.specs.Rules.{IsNumber}
use Rattle.world_run.specs.Course.{AreSteps, PostsAny}
use Rattle.world_run.specs.Renewal.{IsUndelivered, Reposts, RepostsAll}
use Rattle.world_run.specs.World.{histories_of}
use Rattle.world_run.proofs.FinishLemmas.{number_once}
use Rattle.world_run.proofs.SetLemmas.{set_same}
use Rattle.world_run.proofs.UndeliveredLemmas.{emitted_in}
use Rattle.world_run.proofs.WorldLemmas.{history_is}
use Rattle.enactment_model.specs.Liveness.{IsReceived}

-- nothing is undelivered of a receipt
pub receipt_none : (job : Job) (histories : List (List Entry)) (entry : Entry) (j : Instance) → entry.event ≡ Receive j → (e : Envelope) → IsUndelivered job histories entry e → ⊥
receipt_none job histories entry j received e is = absurd (no_receipt (sym received ∙ is.emitted))
  where
    no_receipt : Receive j ≡ Emit e.message.instance → ⊥
    no_receipt same = absurd (cc)

-- nor of an emission that is lost
pub lost_none : (job : Job) (histories : List (List Entry)) (entry : Entry) (i : Instance) (n : ℕ) → AllPairs ◌≢◌ job.script.keys → entry.event ≡ Emit i → IsNumber (rules_of job) n i.key → copies_of job.plan i.message n ≡ 0 → (e : Envelope) → IsUndelivered job histories entry e → ⊥
lost_none job histories entry i n distinct emitted number none e is =
    let same : e.message.instance ≡ i = ap emitted_in (sym is.emitted ∙ emitted) in
    let numbered : IsNumber (rules_of job) is.copies.n i.key = subst (λ (j : Instance). IsNumber (rules_of job) is.copies.n j.key) same is.copies.number in
    let one : is.copies.n ≡ n = number_once job is.copies.n n i.key distinct numbered number in
    let copies : e.copies ≡ copies_of job.plan i.message n = is.copies.copies ∙ ap (λ (j : Instance). copies_of job.plan j.message is.copies.n) same ∙ ap (copies_of job.plan i.message) one in
    absurd (omega (arith, copies, none, is.copies.some))

-- nor of one that its receiver has received
pub received_none : (job : Job) (desks : List DeskState) (entry : Entry) (i : Instance) (target : DeskState) → entry.event ≡ Emit i → slice_get desks (message_of job.protocol i.message).receiver ≡ Some target → IsReceived (acts_of target.store) i.key i.message → (e : Envelope) → IsUndelivered job (histories_of desks) entry e → ⊥
received_none job desks entry i target emitted target_at got e is =
    let same : e.message.instance ≡ i = ap emitted_in (sym is.emitted ∙ emitted) in
    let to : e.to ≡ (message_of job.protocol i.message).receiver = is.to ∙ ap (λ (j : Instance). (message_of job.protocol j.message).receiver) same in
    let history : history_at (histories_of desks) e.to ≡ target.store.entries = ap (history_at (histories_of desks)) to ∙ history_is desks (message_of job.protocol i.message).receiver target target_at in
    is.unreceived (subst (λ (h : List Entry). IsReceived (events_of h) e.message.instance.key e.message.instance.message) (sym history)
    (subst (λ (j : Instance). IsReceived (acts_of target.store) j.key j.message) (sym same) got))

-- the stores of the desks
abbrev stores_of : List DeskState → List StoreState
stores_of desks = map (λ (d : DeskState). d.store) desks

-- posting keeps them
posts_keep : (old : List DeskState) (e : Option Envelope) (new : List DeskState) → PostsAny old e new → stores_of new ≡ stores_of old
posts_keep old None new posted = ap stores_of posted
posts_keep old (Some e) new posted =
    ap stores_of posted.desks
    ∙ map-set (λ (d : DeskState). d.store) old e.to posted.after
    ∙ set_same (stores_of old) e.to posted.after.store (slice_get-map (λ (d : DeskState). d.store) old e.to ∙ ap (option_map (λ (d : DeskState). d.store)) posted.at ∙ ap Some (sym posted.accepted.store))

-- steps that keep them do so one after another
steps_keep : (step : ℕ → List DeskState → List DeskState → Type 0) → ((k : ℕ) (old new : List DeskState) → step k old new → stores_of new ≡ stores_of old) → (count : ℕ) (old new : List DeskState) → AreSteps step count old new → stores_of new ≡ stores_of old
steps_keep step keep zero old new steps = ap stores_of steps
steps_keep step keep (suc k) old new steps = keep k steps.0 new steps.2 ∙ steps_keep step keep k old steps.0 steps.1

-- posting all that is undelivered keeps them
pub reposts_keep : (job : Job) (count : ℕ) (old new : List DeskState) → AreSteps (RepostsAll job) count old new → map (λ (d : DeskState). d.store) new ≡ map (λ (d : DeskState). d.store) old
reposts_keep job count old new steps = steps_keep (RepostsAll job) (λ role mid next all. steps_keep (Reposts job role) (λ k before after one. posts_keep before one.envelope after one.posted) (length (history_at (histories_of mid) role)) mid next all) count old new steps
