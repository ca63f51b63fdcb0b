-- A parameter is bound exactly if one of the protocol's roles knows it.
use Rattle.std.proofs.Common.{ℕ, ◌<◌, ◌≤◌, List, length, arith}
use Rattle.std.specs.Prelude.{◌==◌}
use Rattle.std.proofs.lemmas.Bool.Decides.{Decides-eqb}
use Rattle.std.proofs.lemmas.List.Elements.{All-contains}
use Rattle.list_base.proofs.Filtered.{filtered_member}
use Rattle.bspl_types.specs.declared.event.Event.{Event}
use Rattle.bspl_types.specs.declared.event.Event.TheVariants.{Emit, Receive}
use Rattle.bspl_types.specs.declared.expanded.Expanded.{Expanded}
use Rattle.bspl_types.specs.declared.value.Value.{Value}
use Rattle.bspl_types.specs.Expansion.{no_message}
use Rattle.bspl_types.specs.History.{history_of, instance_of, IsRun, role_of}
use Rattle.bspl_types.specs.Instance.{Fits}
use Rattle.bspl_types.specs.Knowledge.{IsKnown}
use Rattle.enactment_model.specs.Liveness.{Bound}

-- each act is that of one of the protocol's roles
known_role : (x : Expanded) (e : Event) → Fits x (instance_of e) → role_of x e < length x.roles
known_role x (Emit i) fits = (x.shape.each_message i.message no_message fits.known).known_sender
known_role x (Receive i) fits = (x.shape.each_message i.message no_message fits.known).known_receiver

-- if none of these knows the parameter, it is not bound
pub not_bound : (x : Expanded) (run : List Event) (key : List Value) (p n : ℕ) → IsRun x run → length x.roles ≤ n → ((r : ℕ) → r < n → ¬ IsKnown x (history_of x r run) key p) → ¬ Bound x run key p
not_bound x run key p n is_run all unknown bound =
    let event = bound.known.1.event in
    let (among, own) = filtered_member (λ e. role_of x e == bound.role) run event bound.known.1.among in
    let known = known_role x event (All-contains (λ e. Fits x (instance_of e)) run event is_run among) in
    let is_role = (Decides-eqb (role_of x event) bound.role).0 own in
    unknown bound.role (omega arith) bound.known
