-- What is undelivered of an entry, from its lemmas.
use Rattle.std.proofs.Common.{◌≡◌, ℕ, ◌-◌, ◌<◌, List, Some, arith, ap, length, slice_get, subst, sym, ◌∙◌, Contains}
use Rattle.std.proofs.lemmas.Option.{get_or_from_slice_get}
use Rattle.adapter.specs.Desk.{DeskState}
use Rattle.adapter.specs.Rules.{rules_of}
use Rattle.agent_scripts.specs.declared.plan.Plan.{Plan}
use Rattle.agent_scripts.specs.Fitting.{IsFittingScript}
use Rattle.agent_scripts.specs.Job.{Job}
use Rattle.agent_scripts.specs.Script.{Script}
use Rattle.bspl_types.specs.declared.event.Instance.{Instance}
use Rattle.bspl_types.specs.declared.expanded.Expanded.{Expanded}
use Rattle.bspl_types.specs.declared.protocol.Message.{Message}
use Rattle.bspl_types.specs.Expansion.{message_of, no_message}
use Rattle.local_store.specs.State.{acts_of, numbers, StoreState}
use Rattle.stamped_history.specs.Rules.{IsNumber}
use Rattle.reorder_net.specs.Losses.{copies_of}
use Rattle.stamped_history.specs.declared.entry.Entry.{Entry}
use Rattle.stamped_history.specs.Explained.{history_at}
use Rattle.world_run.specs.World.{histories_of}
use Rattle.world_run.proofs.EmissionLemmas.{emission_at, EmissionAt, lost_owes, undelivered_of, received_owes, receipt_owes, seen, SeenAt, unnumbered_owes}
use Rattle.world_run.proofs.EmitLemmas.{message_exists}
use Rattle.world_run.proofs.EntryLemmas.{number_is}
use Rattle.world_run.proofs.UndeliveredLemmas.{item_there}
use Rattle.world_run.proofs.WorldLemmas.{history_is}
use Rattle.world_run.proofs.emissions.undelivered_envelope.Goals as goal
use Rattle.enactment_model.specs.Liveness.{IsReceived}

pub returns-in_default : goal.returns-in_default
returns-in_default c = λ entry at.
    let job : Job = c.args.job.now in
    let desks : List DeskState = c.args.desks.now in
    let role : ℕ = c.args.role in
    let d : DeskState = c.at.result.now in
    let shown : SeenAt desks role c.args.index d entry c.event-event.result.0 c.event-event.result.1 = seen desks role c.args.index d c.store-store.result.now entry c.event-event.result.0 c.event-event.result.1 c.at.ensures c.store-store.ensures c.event-event.ensures at in
    receipt_owes job desks entry c.in_default.field-0 (shown.event_is ∙ c.in_default.is)

pub at-requires-2 : goal.at-requires-2
at-requires-2 c =
    let job : Job = c.args.job.now in
    let desks : List DeskState = c.args.desks.now in
    let role : ℕ = c.args.role in
    let d : DeskState = c.at.result.now in
    let there = item_there (history_at (histories_of desks) role) c.args.index c.requires.index in
    let entry : Entry = there.0 in
    let at : slice_get (history_at (histories_of desks) role) c.args.index ≡ Some entry = there.1 in
    let shown : SeenAt desks role c.args.index d entry c.event-event.result.0 c.event-event.result.1 = seen desks role c.args.index d c.store-store.result.now entry c.event-event.result.0 c.event-event.result.1 c.at.ensures c.store-store.ensures c.event-event.ensures at in
    let i : Instance = c.in-Emit.instance in
    let is : EmissionAt job desks role c.args.index d entry i = emission_at job desks role c.args.index d entry i c.requires.sound c.at.ensures shown.at (shown.event_is ∙ c.in-Emit.is) in
    let protocol : c.expanded.result.now ≡ job.protocol = c.expanded.ensures.same ∙ c.admitted.ensures in
    subst (λ (x : Expanded). i.message < length x.messages) (sym protocol) is.fits.known

pub returns-in_default-number : goal.returns-in_default-number
returns-in_default-number c = λ entry at.
    let job : Job = c.args.job.now in
    let desks : List DeskState = c.args.desks.now in
    let role : ℕ = c.args.role in
    let d : DeskState = c.at.result.now in
    let shown : SeenAt desks role c.args.index d entry c.event-event.result.0 c.event-event.result.1 = seen desks role c.args.index d c.store-store.result.now entry c.event-event.result.0 c.event-event.result.1 c.at.ensures c.store-store.ensures c.event-event.ensures at in
    let i : Instance = c.in-Emit.instance in
    let is : EmissionAt job desks role c.args.index d entry i = emission_at job desks role c.args.index d entry i c.requires.sound c.at.ensures shown.at (shown.event_is ∙ c.in-Emit.is) in
    unnumbered_owes job desks role c.args.index d entry i is (subst (λ (s : Script). Contains s.keys i.key → ⊥) c.script.ensures.same c.in_default-number.ensures)

pub at-requires-3 : goal.at-requires-3
at-requires-3 c =
    let job : Job = c.args.job.now in
    let desks : List DeskState = c.args.desks.now in
    let role : ℕ = c.args.role in
    let d : DeskState = c.at.result.now in
    let there = item_there (history_at (histories_of desks) role) c.args.index c.requires.index in
    let entry : Entry = there.0 in
    let at : slice_get (history_at (histories_of desks) role) c.args.index ≡ Some entry = there.1 in
    let shown : SeenAt desks role c.args.index d entry c.event-event.result.0 c.event-event.result.1 = seen desks role c.args.index d c.store-store.result.now entry c.event-event.result.0 c.event-event.result.1 c.at.ensures c.store-store.ensures c.event-event.ensures at in
    let i : Instance = c.in-Emit.instance in
    let is : EmissionAt job desks role c.args.index d entry i = emission_at job desks role c.args.index d entry i c.requires.sound c.at.ensures shown.at (shown.event_is ∙ c.in-Emit.is) in
    let protocol : c.expanded.result.now ≡ job.protocol = c.expanded.ensures.same ∙ c.admitted.ensures in
    let message : message_of job.protocol i.message ≡ c.at-2.result.now = get_or_from_slice_get job.protocol.messages i.message c.at-2.result.now no_message
    (subst (λ (x : Expanded). slice_get x.messages i.message ≡ Some c.at-2.result.now) protocol c.at-2.ensures) in
    omega (arith, ap (λ (m : Message). m.receiver) message, (message_exists job.protocol i.message is.fits.known).known_receiver, c.requires.sound.kept.count)

pub returns-then-copies-eq0 : goal.returns-then-copies-eq0
returns-then-copies-eq0 c = λ entry at.
    let job : Job = c.args.job.now in
    let desks : List DeskState = c.args.desks.now in
    let role : ℕ = c.args.role in
    let d : DeskState = c.at.result.now in
    let shown : SeenAt desks role c.args.index d entry c.event-event.result.0 c.event-event.result.1 = seen desks role c.args.index d c.store-store.result.now entry c.event-event.result.0 c.event-event.result.1 c.at.ensures c.store-store.ensures c.event-event.ensures at in
    let i : Instance = c.in-Emit.instance in
    let is : EmissionAt job desks role c.args.index d entry i = emission_at job desks role c.args.index d entry i c.requires.sound c.at.ensures shown.at (shown.event_is ∙ c.in-Emit.is) in
    let number : IsNumber (rules_of job) c.in-Some.n i.key = record {
      some = c.in-Some.ensures.0;
      at = subst (λ (s : Script). slice_get s.keys (c.in-Some.n - 1) ≡ Some i.key) c.script.ensures.same c.in-Some.ensures.1;
    } in
    let copies : c.copies-copies.result ≡ copies_of job.plan i.message c.in-Some.n = c.copies-copies.ensures ∙ ap (λ (p : Plan). copies_of p i.message c.in-Some.n) c.plan.ensures in
    let fitting : IsFittingScript job.script.keys job.script.rules = c.is_orderly.ensures.fitting in
    lost_owes job desks entry i c.in-Some.n fitting.distinct is.emitted number (sym copies ∙ c.if-copies-eq0.true)

pub returns-then-received : goal.returns-then-received
returns-then-received c = λ entry at.
    let job : Job = c.args.job.now in
    let desks : List DeskState = c.args.desks.now in
    let role : ℕ = c.args.role in
    let d : DeskState = c.at.result.now in
    let shown : SeenAt desks role c.args.index d entry c.event-event.result.0 c.event-event.result.1 = seen desks role c.args.index d c.store-store.result.now entry c.event-event.result.0 c.event-event.result.1 c.at.ensures c.store-store.ensures c.event-event.ensures at in
    let i : Instance = c.in-Emit.instance in
    let is : EmissionAt job desks role c.args.index d entry i = emission_at job desks role c.args.index d entry i c.requires.sound c.at.ensures shown.at (shown.event_is ∙ c.in-Emit.is) in
    let protocol : c.expanded.result.now ≡ job.protocol = c.expanded.ensures.same ∙ c.admitted.ensures in
    let message : message_of job.protocol i.message ≡ c.at-2.result.now = get_or_from_slice_get job.protocol.messages i.message c.at-2.result.now no_message
    (subst (λ (x : Expanded). slice_get x.messages i.message ≡ Some c.at-2.result.now) protocol c.at-2.ensures) in
    let target : DeskState = c.at-3.result.now in
    let target_at : slice_get desks (message_of job.protocol i.message).receiver ≡ Some target = subst (λ (m : Message). slice_get desks m.receiver ≡ Some target) (sym message) c.at-3.ensures in
    let got : IsReceived (acts_of target.store) i.key i.message = subst (λ (s : StoreState). IsReceived (acts_of s) i.key i.message) c.store-receiver.ensures (c.received.ensures.0 c.if-received.true) in
    received_owes job desks role c.args.index d entry i target c.requires.sound is target_at got

pub number-requires-2 : goal.number-requires-2
number-requires-2 c =
    let job : Job = c.args.job.now in
    let desks : List DeskState = c.args.desks.now in
    let role : ℕ = c.args.role in
    let d : DeskState = c.at.result.now in
    let store = ap (λ (s : StoreState). length s.entries) c.store-store.ensures in
    omega (arith, c.requires.index, store, ap length (history_is desks role d c.at.ensures))

pub returns : goal.returns
returns c = λ entry at.
    let job : Job = c.args.job.now in
    let desks : List DeskState = c.args.desks.now in
    let role : ℕ = c.args.role in
    let d : DeskState = c.at.result.now in
    let shown : SeenAt desks role c.args.index d entry c.event-event.result.0 c.event-event.result.1 = seen desks role c.args.index d c.store-store.result.now entry c.event-event.result.0 c.event-event.result.1 c.at.ensures c.store-store.ensures c.event-event.ensures at in
    let i : Instance = c.in-Emit.instance in
    let is : EmissionAt job desks role c.args.index d entry i = emission_at job desks role c.args.index d entry i c.requires.sound c.at.ensures shown.at (shown.event_is ∙ c.in-Emit.is) in
    let protocol : c.expanded.result.now ≡ job.protocol = c.expanded.ensures.same ∙ c.admitted.ensures in
    let message : message_of job.protocol i.message ≡ c.at-2.result.now = get_or_from_slice_get job.protocol.messages i.message c.at-2.result.now no_message
    (subst (λ (x : Expanded). slice_get x.messages i.message ≡ Some c.at-2.result.now) protocol c.at-2.ensures) in
    let number : IsNumber (rules_of job) c.in-Some.n i.key = record {
      some = c.in-Some.ensures.0;
      at = subst (λ (s : Script). slice_get s.keys (c.in-Some.n - 1) ≡ Some i.key) c.script.ensures.same c.in-Some.ensures.1;
    } in
    let copies : c.copies-copies.result ≡ copies_of job.plan i.message c.in-Some.n = c.copies-copies.ensures ∙ ap (λ (p : Plan). copies_of p i.message c.in-Some.n) c.plan.ensures in
    let target : DeskState = c.at-3.result.now in
    let target_at : slice_get desks (message_of job.protocol i.message).receiver ≡ Some target = subst (λ (m : Message). slice_get desks m.receiver ≡ Some target) (sym message) c.at-3.ensures in
    let fitting : IsFittingScript job.script.keys job.script.rules = c.is_orderly.ensures.fitting in
    let given : entry.number ≡ c.number-2.result = number_is d.store.entries c.args.index entry c.number-2.result shown.at
    (subst (λ (s : StoreState). slice_get {X = ℕ} (numbers s) c.args.index ≡ Some c.number-2.result) c.store-store.ensures c.number-2.ensures) in
    let from : c.role.result ≡ role = c.role.ensures ∙ ap (λ (s : StoreState). s.role) c.store-store.ensures ∙ (c.requires.sound.kept.each role d c.at.ensures).role_is in
    undelivered_of job desks role c.args.index d entry (record {
      to = c.at-2.result.now.receiver;
      from = c.role.result;
      message = record { instance = i; stamp = c.event-event.result.1; number = c.number-2.result };
      copies = c.copies-copies.result;
    }) c.in-Some.n target fitting.distinct c.requires.sound is from (ap (λ (m : Message). m.receiver) (sym message)) (sym shown.stamp_is) (sym given ∙ is.number) number copies c.if-copies-eq0.false c.at-3.ensures
    (λ got. absurd (grind (arith, c.if-received.false, c.received.ensures.1 (subst (λ (s : StoreState). IsReceived (acts_of s) i.key i.message) (sym c.store-receiver.ensures) got))))
