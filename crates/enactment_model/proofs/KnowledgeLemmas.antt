-- A parameter is known exactly if some event has a message that adorns it `in` or `out`.
use Rattle.std.proofs.Common.{◌≡◌, ℕ, true, List, refl, ap, subst}
use Rattle.std.specs.Prelude.{◌==◌}
use Rattle.std.specs.List.{Contains}
use Rattle.std.proofs.lemmas.List.Elements.{All-contains, All-filter}
use Rattle.list_base.proofs.Filtered.{filtered_member, kept_member}
use Rattle.list_base.proofs.Partners.{partner_of, zipped_member}
use Rattle.bspl_types.specs.declared.event.Event.{Event}
use Rattle.bspl_types.specs.declared.event.Instance.{Instance}
use Rattle.bspl_types.specs.declared.expanded.Expanded.{Expanded}
use Rattle.bspl_types.specs.declared.protocol.Adornment.{Adornment}
use Rattle.bspl_types.specs.declared.value.Value.{Value}
use Rattle.bspl_types.specs.Adornment.{Binds, has_value, valued}
use Rattle.bspl_types.specs.Expansion.{Adorns, message_of}
use Rattle.bspl_types.specs.History.{history_of, instance_of, IsRun, role_of}
use Rattle.bspl_types.specs.Instance.{Carries, Fits, pairs}
use Rattle.bspl_types.specs.Knowledge.{IsKnown}
use Rattle.enactment_model.specs.Binding.{HasBindingEvent}

-- what an instance carries is a parameter of its message, adorned `in` or `out`
pub carried_with_value : (x : Expanded) (i : Instance) (adornment : Adornment) (p : ℕ) (v : Value) → Carries x i adornment p v → Adorns x i.message adornment p × (has_value adornment ≡ true)
carried_with_value x i adornment p v carries =
    filtered_member (λ c. has_value c.adornment) (message_of x i.message).carried _ (zipped_member (valued (message_of x i.message).carried) i.values _ v carries)

-- a message that adorns the parameter with a value binds it
pub binds_by : (x : Expanded) (m : ℕ) (adornment : Adornment) (p : ℕ) → has_value adornment ≡ true → Adorns x m adornment p → Binds (message_of x m).carried p
binds_by x m adornment p has (k, within, is) = record { among = (k, record { param = p; adornment = adornment }, within, is, (refl, has)) }

-- what is known comes from an event that binds it
pub binding_from_known : (x : Expanded) (history : List Event) (key : List Value) (p : ℕ) → IsKnown x history key p → HasBindingEvent x history key p
binding_from_known x history key p (v, knows) =
    let (adorned, has) = carried_with_value x (instance_of knows.event) knows.adornment p v knows.carries in
    record { event = knows.event; among = knows.among; under = knows.under; binds = binds_by x (instance_of knows.event).message knows.adornment p has adorned }

-- an instance that fits carries a value of what its message binds
value_carried : (x : Expanded) (i : Instance) (p : ℕ) → Fits x i → Binds (message_of x i.message).carried p → (adornment : Adornment) × (v : Value) × Carries x i adornment p v
value_carried x i p fits binds =
    let (k, c, within, is, (param_is, has)) = binds.among in
    let carried = (message_of x i.message).carried in
    let (v, pair) = partner_of (valued carried) i.values c fits.each_value (kept_member (λ b. has_value b.adornment) carried c has (k, within, is)) in
    (c.adornment, v, subst (λ b. Contains (pairs x i) (b, v)) (ap (λ q. record { param = q; adornment = c.adornment }) param_is) pair)

-- what an event binds is known
pub known_from_binding : (x : Expanded) (history : List Event) (key : List Value) (p : ℕ) → IsRun x history → HasBindingEvent x history key p → IsKnown x history key p
known_from_binding x history key p is_run binding =
    let fits = All-contains (λ e. Fits x (instance_of e)) history binding.event is_run binding.among in
    let (adornment, v, carries) = value_carried x (instance_of binding.event) p fits binding.binds in
    (v, record { event = binding.event; among = binding.among; under = binding.under; adornment = adornment; carries = carries })

-- a role's history is a run
pub history_is_run : (x : Expanded) (run : List Event) (role : ℕ) → IsRun x run → IsRun x (history_of x role run)
history_is_run x run role is_run = All-filter (λ e. role_of x e == role) (λ e. Fits x (instance_of e)) run is_run
