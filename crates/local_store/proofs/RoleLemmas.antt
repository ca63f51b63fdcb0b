-- Which messages are the role's, and what their events are.
use Rattle.std.proofs.Common.{◌≡◌, ℕ, ◌<◌, ◌≤◌, nat_eq, List, length, sym, ap, ◌∙◌, subst, arith}
use Rattle.std.specs.Prelude.{◌↔◌, IsTrue, slice_get, Some}
use Rattle.std.specs.List.{Contains}
use Rattle.std.proofs.lemmas.Bool.Decides.{Decides-eqb}
use Rattle.std.proofs.lemmas.List.Elements.{All-contains}
use Rattle.std.proofs.lemmas.Option.{get_or_from_slice_get}
use Rattle.bspl_types.specs.declared.event.Event.{Event}
use Rattle.bspl_types.specs.declared.event.Event.TheVariants.{Emit, Receive}
use Rattle.bspl_types.specs.declared.protocol.Message.{Message}
use Rattle.bspl_types.specs.declared.value.Value.{Value}
use Rattle.bspl_types.specs.Expansion.{message_of, no_message}
use Rattle.bspl_types.specs.History.{instance_of, role_of}
use Rattle.bspl_types.specs.Instance.{Fits}
use Rattle.bspl_types.specs.Knowledge.{IsKnown}
use Rattle.enactment_model.specs.Liveness.{IsEmitted, IsReceived}
use Rattle.local_store.specs.declared.act.Kind.{Kind}
use Rattle.local_store.specs.declared.act.Kind.TheVariants.{Emitted, Received}
use Rattle.local_store.specs.State.{StoreState, acts_of}
use Rattle.local_store.specs.inner.Kept.{HasEvent, IsOfRole, IsSound}
use Rattle.local_store.proofs.InstanceLemmas.{pair_exists}
use Rattle.local_store.proofs.ReceiptLemmas.{event_held, two_roles}

-- who acts on a message
abbrev pub role_in : Kind → Message → ℕ
role_in Emitted schema = schema.sender
role_in Received schema = schema.receiver

-- the role of the message that was read
pub of_role : (s : StoreState) (kind : Kind) (m : ℕ) (schema : Message) (own role : ℕ) → m < length s.protocol.messages → role ≡ s.role → own ≡ role_in kind schema → slice_get s.protocol.messages m ≡ Some schema → IsTrue (nat_eq own role) ↔ IsOfRole s.protocol s.role kind m
of_role s Emitted m schema own role known is_role is_own at =
    let message = get_or_from_slice_get s.protocol.messages m schema no_message at in
    let sender = ap (λ n. n.sender) message ∙ sym is_own in
    (λ yes. record { known = known; own = sender ∙ (Decides-eqb own role).0 yes ∙ is_role }, λ of. (Decides-eqb own role).1 (sym sender ∙ of.own ∙ sym is_role))
of_role s Received m schema own role known is_role is_own at =
    let message = get_or_from_slice_get s.protocol.messages m schema no_message at in
    let receiver = ap (λ n. n.receiver) message ∙ sym is_own in
    (λ yes. record { known = known; own = receiver ∙ (Decides-eqb own role).0 yes ∙ is_role }, λ of. (Decides-eqb own role).1 (sym receiver ∙ of.own ∙ sym is_role))

-- an event of a message that the role sends is its emission
is_emitted : (s : StoreState) (key : List Value) (m : ℕ) → IsSound s → IsOfRole s.protocol s.role Emitted m → (e : Event) → Contains (acts_of s) e → (instance_of e).key ≡ key → (instance_of e).message ≡ m → IsEmitted (acts_of s) key m
is_emitted s key m sound of (Emit i) among under message = record { instance = i; emitted = among; under = under; message_is = message }
is_emitted s key m sound of (Receive i) among under message =
    let own = All-contains (λ e. role_of s.protocol e ≡ s.role) (acts_of s) (Receive i) sound.local.own among in
    absurd (two_roles s sound m of.known (of.own ∙ sym own ∙ ap (λ n. (message_of s.protocol n).receiver) message))

is_received : (s : StoreState) (key : List Value) (m : ℕ) → IsSound s → IsOfRole s.protocol s.role Received m → (e : Event) → Contains (acts_of s) e → (instance_of e).key ≡ key → (instance_of e).message ≡ m → IsReceived (acts_of s) key m
is_received s key m sound of (Receive i) among under message = record { instance = i; received = among; under = under; message_is = message }
is_received s key m sound of (Emit i) among under message =
    let own = All-contains (λ e. role_of s.protocol e ≡ s.role) (acts_of s) (Emit i) sound.local.own among in
    absurd (two_roles s sound m of.known (ap (λ n. (message_of s.protocol n).sender) (sym message) ∙ own ∙ sym of.own))

pub emitted_if : (s : StoreState) (key : List Value) (m : ℕ) → IsSound s → IsOfRole s.protocol s.role Emitted m → HasEvent (acts_of s) key m ↔ IsEmitted (acts_of s) key m
emitted_if s key m sound of = (
  λ has. is_emitted s key m sound of has.event has.among has.under has.message_is,
  λ e. record { event = Emit e.instance; among = e.emitted; under = e.under; message_is = e.message_is },
)

pub received_if : (s : StoreState) (key : List Value) (m : ℕ) → IsSound s → IsOfRole s.protocol s.role Received m → HasEvent (acts_of s) key m ↔ IsReceived (acts_of s) key m
received_if s key m sound of = (
  λ has. is_received s key m sound of has.event has.among has.under has.message_is,
  λ r. record { event = Receive r.instance; among = r.received; under = r.under; message_is = r.message_is },
)

-- what was emitted or received is the role's
pub emitted_of : (s : StoreState) (key : List Value) (m : ℕ) → IsSound s → IsEmitted (acts_of s) key m → IsOfRole s.protocol s.role Emitted m
emitted_of s key m sound e = subst (IsOfRole s.protocol s.role Emitted) e.message_is (record {
  known = (All-contains (λ f. Fits s.protocol (instance_of f)) (acts_of s) (Emit e.instance) sound.local.fits e.emitted).known;
  own = All-contains (λ f. role_of s.protocol f ≡ s.role) (acts_of s) (Emit e.instance) sound.local.own e.emitted;
})

pub received_of : (s : StoreState) (key : List Value) (m : ℕ) → IsSound s → IsReceived (acts_of s) key m → IsOfRole s.protocol s.role Received m
received_of s key m sound r = subst (IsOfRole s.protocol s.role Received) r.message_is (record {
  known = (All-contains (λ f. Fits s.protocol (instance_of f)) (acts_of s) (Receive r.instance) sound.local.fits r.received).known;
  own = All-contains (λ f. role_of s.protocol f ≡ s.role) (acts_of s) (Receive r.instance) sound.local.own r.received;
})

-- under a key that is not held there is no event, and nothing is known
pub no_event : (s : StoreState) (key : List Value) (m : ℕ) → IsSound s → ¬ Contains s.keys key → ¬ HasEvent (acts_of s) key m
no_event s key m sound not has = not (subst (Contains s.keys) has.under (event_held s has.event sound has.among))

pub nothing_known : (s : StoreState) (key : List Value) (p : ℕ) → IsSound s → ¬ Contains s.keys key → ¬ IsKnown s.protocol (acts_of s) key p
nothing_known s key p sound not known = not (subst (Contains s.keys) known.1.under (event_held s known.1.event sound known.1.among))

-- and of a parameter that does not exist nothing is
pub unknown_past : (s : StoreState) (key : List Value) (p : ℕ) → length s.protocol.params ≤ p → ¬ IsKnown s.protocol (acts_of s) key p
unknown_past s key p past known =
    omega (arith, past, pair_exists s.protocol (instance_of known.1.event) (record { param = p; adornment = known.1.adornment }) known.0 known.1.carries)
