-- What the outline of an entry says of what is owed of it.
use Rattle.std.proofs.Common.{◌≡◌, ℕ, ◌<◌, List, Some, arith, ap, length, slice_get, subst, sym, ◌∙◌}
use Rattle.std.specs.Prelude.{◌↔◌, IsTrue}
use Rattle.std.proofs.lemmas.Option.{get_or_from_slice_get}
use Rattle.adapter.specs.Desk.{DeskState}
use Rattle.agent_scripts.specs.Job.{Job}
use Rattle.bspl_types.specs.declared.event.Instance.{Instance}
use Rattle.bspl_types.specs.declared.expanded.Expanded.{Expanded}
use Rattle.bspl_types.specs.declared.protocol.Message.{Message}
use Rattle.bspl_types.specs.Expansion.{message_of, no_message}
use Rattle.bspl_types.specs.History.{instance_of}
use Rattle.local_store.specs.declared.act.Kind.{Kind}
use Rattle.local_store.specs.State.{acts_of, StoreState}
use Rattle.stamped_history.specs.declared.entry.Entry.{Entry}
use Rattle.stamped_history.specs.Explained.{history_at}
use Rattle.world_run.specs.World.{histories_of}
use Rattle.world_run.proofs.EmissionLemmas.{emission_at, EmissionAt, received_owes, receipt_owes}
use Rattle.world_run.proofs.EmitLemmas.{message_exists}
use Rattle.world_run.proofs.OutlineLemmas.{emits_as, outlined, receives_as}
use Rattle.world_run.proofs.UndeliveredLemmas.{item_there}
use Rattle.world_run.proofs.WorldLemmas.{history_is}
use Rattle.world_run.proofs.emissions.is_delivered.Goals as goal
use Rattle.enactment_model.specs.Liveness.{IsReceived}

pub at-requires-in-Emitted : goal.at-requires-in-Emitted
at-requires-in-Emitted c =
    let job : Job = c.args.job.now in
    let desks : List DeskState = c.args.desks.now in
    let role : ℕ = c.args.role in
    let d : DeskState = c.at.result.now in
    let there = item_there (history_at (histories_of desks) role) c.args.index c.requires.index in
    let entry : Entry = there.0 in
    let shown = outlined desks role c.args.index d c.store-store.result.now entry c.outline-kind.result c.at.ensures c.store-store.ensures c.outline-kind.ensures there.1 in
    let emits = emits_as entry.event c.outline-kind.result.0 c.outline-kind.result.1 shown.outline_is c.in-Emitted.is in
    let is : EmissionAt job desks role c.args.index d entry emits.0 = emission_at job desks role c.args.index d entry emits.0 c.requires.sound c.at.ensures shown.at emits.1 in
    let protocol : c.expanded.result.now ≡ job.protocol = c.expanded.ensures.same ∙ c.admitted.ensures in
    subst (λ (x : Expanded). c.outline-kind.result.1 < length x.messages) (sym protocol) (subst (λ (m : ℕ). m < length job.protocol.messages) emits.2 is.fits.known)

pub at-requires-in-Emitted-2 : goal.at-requires-in-Emitted-2
at-requires-in-Emitted-2 c =
    let job : Job = c.args.job.now in
    let desks : List DeskState = c.args.desks.now in
    let role : ℕ = c.args.role in
    let d : DeskState = c.at.result.now in
    let there = item_there (history_at (histories_of desks) role) c.args.index c.requires.index in
    let entry : Entry = there.0 in
    let shown = outlined desks role c.args.index d c.store-store.result.now entry c.outline-kind.result c.at.ensures c.store-store.ensures c.outline-kind.ensures there.1 in
    let emits = emits_as entry.event c.outline-kind.result.0 c.outline-kind.result.1 shown.outline_is c.in-Emitted.is in
    let is : EmissionAt job desks role c.args.index d entry emits.0 = emission_at job desks role c.args.index d entry emits.0 c.requires.sound c.at.ensures shown.at emits.1 in
    let protocol : c.expanded.result.now ≡ job.protocol = c.expanded.ensures.same ∙ c.admitted.ensures in
    let message : message_of job.protocol c.outline-kind.result.1 ≡ c.at-in-Emitted.result.now = get_or_from_slice_get job.protocol.messages c.outline-kind.result.1 c.at-in-Emitted.result.now no_message
    (subst (λ (x : Expanded). slice_get x.messages c.outline-kind.result.1 ≡ Some c.at-in-Emitted.result.now) protocol c.at-in-Emitted.ensures) in
    let known : c.outline-kind.result.1 < length job.protocol.messages = subst (λ (m : ℕ). m < length job.protocol.messages) emits.2 is.fits.known in
    omega (arith, ap (λ (m : Message). m.receiver) message, (message_exists job.protocol c.outline-kind.result.1 known).known_receiver, c.requires.sound.kept.count)

pub has_received-requires : goal.has_received-requires
has_received-requires c =
    let d : DeskState = c.at.result.now in
    omega (arith, c.requires.index, ap (λ (s : StoreState). length s.entries) c.store-store.ensures, ap length (history_is c.args.desks.now c.args.role d c.at.ensures))

pub returns-in-Received : goal.returns-in-Received
returns-in-Received c = λ yes entry at.
    let d : DeskState = c.at.result.now in
    let shown = outlined c.args.desks.now c.args.role c.args.index d c.store-store.result.now entry c.outline-kind.result c.at.ensures c.store-store.ensures c.outline-kind.ensures at in
    let receives = receives_as entry.event c.outline-kind.result.0 c.outline-kind.result.1 shown.outline_is c.in-Received.is in
    receipt_owes c.args.job.now c.args.desks.now entry receives.0 receives.1

pub returns-in-Emitted : goal.returns-in-Emitted
returns-in-Emitted c = λ yes entry at.
    let job : Job = c.args.job.now in
    let desks : List DeskState = c.args.desks.now in
    let role : ℕ = c.args.role in
    let d : DeskState = c.at.result.now in
    let shown = outlined desks role c.args.index d c.store-store.result.now entry c.outline-kind.result c.at.ensures c.store-store.ensures c.outline-kind.ensures at in
    let emits = emits_as entry.event c.outline-kind.result.0 c.outline-kind.result.1 shown.outline_is c.in-Emitted.is in
    let i : Instance = emits.0 in
    let is : EmissionAt job desks role c.args.index d entry i = emission_at job desks role c.args.index d entry i c.requires.sound c.at.ensures shown.at emits.1 in
    let protocol : c.expanded.result.now ≡ job.protocol = c.expanded.ensures.same ∙ c.admitted.ensures in
    let message : message_of job.protocol c.outline-kind.result.1 ≡ c.at-in-Emitted.result.now = get_or_from_slice_get job.protocol.messages c.outline-kind.result.1 c.at-in-Emitted.result.now no_message
    (subst (λ (x : Expanded). slice_get x.messages c.outline-kind.result.1 ≡ Some c.at-in-Emitted.result.now) protocol c.at-in-Emitted.ensures) in
    let target : DeskState = c.at-in-Emitted-2.result.now in
    let receiver_at : slice_get desks (message_of job.protocol c.outline-kind.result.1).receiver ≡ Some target = subst (λ (m : Message). slice_get desks m.receiver ≡ Some target) (sym message) c.at-in-Emitted-2.ensures in
    let target_at : slice_get desks (message_of job.protocol i.message).receiver ≡ Some target = subst (λ (m : ℕ). slice_get desks (message_of job.protocol m).receiver ≡ Some target) (sym emits.2) receiver_at in
    let here : slice_get c.store-store.result.now.entries c.args.index ≡ Some entry = subst (λ (s : StoreState). slice_get s.entries c.args.index ≡ Some entry) (sym c.store-store.ensures) shown.at in
    let got = (c.has_received.ensures entry here).0 yes in
    let of_store : IsReceived (acts_of target.store) (instance_of entry.event).key (instance_of entry.event).message = subst (λ (s : StoreState). IsReceived (acts_of s) (instance_of entry.event).key (instance_of entry.event).message) c.store.ensures got in
    received_owes job desks role c.args.index d entry i target c.requires.sound is target_at (subst (λ e. IsReceived (acts_of target.store) (instance_of e).key (instance_of e).message) emits.1 of_store)
