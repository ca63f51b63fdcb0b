-- When an instance was received before, and what is known under keys that are held.
use Rattle.std.proofs.Common.{◌≡◌, ◌≢◌, ℕ, ◌<◌, List, [], ◌∷◌, length, refl, sym, ap, ◌∙◌, subst, arith}
use Rattle.std.specs.List.{All, Contains, zip}
use Rattle.std.proofs.lemmas.List.Elements.{All-contains, All-get_or, All-map, Contains-append_right}
use Rattle.list_base.proofs.Members.{here, there}
use Rattle.bspl_types.specs.declared.envelope.Stamped.{Stamped}
use Rattle.bspl_types.specs.declared.event.Event.{Event}
use Rattle.bspl_types.specs.declared.event.Event.TheVariants.{Emit, Receive}
use Rattle.bspl_types.specs.declared.event.Instance.{Instance}
use Rattle.bspl_types.specs.declared.protocol.Carried.{Carried}
use Rattle.bspl_types.specs.declared.value.Value.{Value}
use Rattle.bspl_types.specs.Admission.{IsAdmittedMessage}
use Rattle.bspl_types.specs.Adornment.{valued}
use Rattle.bspl_types.specs.Expansion.{message_of, no_message}
use Rattle.bspl_types.specs.History.{instance_of, role_of}
use Rattle.bspl_types.specs.Instance.{Fits, pairs}
use Rattle.bspl_types.specs.Knowledge.{Knows}
use Rattle.local_store.specs.declared.receipt.Receipt.{Receipt}
use Rattle.local_store.specs.declared.receipt.Receipt.TheVariants.{Fresh, Repeat, Differs}
use Rattle.local_store.specs.Reception.{Agrees, AllAgree, IsReceipt}
use Rattle.local_store.specs.State.{StoreState, acts_of}
use Rattle.local_store.specs.inner.Difference.{NamesDifference}
use Rattle.local_store.specs.inner.Kept.{HasEvent, IsSound}
use Rattle.local_store.proofs.InstanceLemmas.{knows_own}

-- the values of two instances are one list if each pair is one
same_values : (cs : List Carried) (vs ws : List Value) → length vs ≡ length cs → length ws ≡ length cs → ((c : Carried) (v w : Value) → Contains (zip cs vs) (c, v) → Contains (zip cs ws) (c, w) → v ≡ w) → vs ≡ ws
same_values [] [] [] first second each = refl
same_values [] (v ∷ vs) ws first second each = absurd (omega (arith, first))
same_values [] [] (w ∷ ws) first second each = absurd (omega (arith, second))
same_values (c ∷ cs) [] ws first second each = absurd (omega (arith, first))
same_values (c ∷ cs) (v ∷ vs) [] first second each = absurd (omega (arith, second))
same_values (c ∷ cs) (v ∷ vs) (w ∷ ws) first second each =
    let fewer : length vs ≡ length cs = omega (arith, first) in
    let fewer_too : length ws ≡ length cs = omega (arith, second) in
    λ i. each c v w (here (c, v) (zip cs vs)) (here (c, w) (zip cs ws)) i ∷ same_values cs vs ws fewer fewer_too (λ d u t one other. each d u t (there (c, v) (zip cs vs) (d, u) one) (there (c, w) (zip cs ws) (d, t) other)) i

-- the sender and the receiver of a message are two roles
pub two_roles : (s : StoreState) → IsSound s → (m : ℕ) → m < length s.protocol.messages → (message_of s.protocol m).sender ≢ (message_of s.protocol m).receiver
two_roles s sound m known = (All-get_or (IsAdmittedMessage s.protocol.keys) s.protocol.messages m no_message known sound.admitted.each_message).two_roles

-- an event of the message is its receipt, and has the instance's values
is_received : (s : StoreState) (i : Instance) → IsSound s → Fits s.protocol i → (message_of s.protocol i.message).receiver ≡ s.role → AllAgree s.protocol (acts_of s) i → (e : Event) → Contains (acts_of s) e → (instance_of e).key ≡ i.key → (instance_of e).message ≡ i.message → Contains (acts_of s) (Receive i)
is_received s i sound fits own agree (Emit j) among under message =
    let sender = All-contains (λ e. role_of s.protocol e ≡ s.role) (acts_of s) (Emit j) sound.local.own among in
    absurd (two_roles s sound i.message fits.known (ap (λ m. (message_of s.protocol m).sender) (sym message) ∙ sender ∙ sym own))
is_received s i sound fits own agree (Receive j) among under message =
    let x = s.protocol in
    let fits_j = All-contains (λ e. Fits x (instance_of e)) (acts_of s) (Receive j) sound.local.fits among in
    let cs = valued (message_of x i.message).carried in
    let same_zip = ap (λ m. zip (valued (message_of x m).carried) j.values) message in
    let values = same_values cs j.values i.values (fits_j.each_value ∙ ap (λ m. length (valued (message_of x m).carried)) message) fits.each_value
    (λ c v w one other. All-contains (Agrees x (acts_of s) i.key) (pairs x i) (c, w) agree other v
    (knows_own x (acts_of s) (Receive j) i.key c v among under (subst (λ ps. Contains ps (c, v)) (sym same_zip) one))) in
    subst (Contains (acts_of s)) (λ k. Receive (record { message = message k; key = under k; values = values k })) among

pub repeats : (s : StoreState) (i : Instance) → IsSound s → Fits s.protocol i → (message_of s.protocol i.message).receiver ≡ s.role → AllAgree s.protocol (acts_of s) i → HasEvent (acts_of s) i.key i.message → Contains (acts_of s) (Receive i)
repeats s i sound fits own agree has = is_received s i sound fits own agree has.event has.among has.under has.message_is

-- what was received is an event of its message
pub has_received : (s : StoreState) (i : Instance) → Contains (acts_of s) (Receive i) → HasEvent (acts_of s) i.key i.message
has_received s i among = record { event = Receive i; among = among; under = refl; message_is = refl }

-- a difference is answered
pub differs_receipt : (s : StoreState) (m : Stamped) → IsSound s → (r : Receipt) → NamesDifference s.protocol (acts_of s) m.instance r → IsReceipt s m r s
differs_receipt s m sound Fresh names = absurd names
differs_receipt s m sound Repeat names = absurd names
differs_receipt s m sound (Differs p kept arrived) first =
    let x = s.protocol in
    let i = m.instance in (
      λ received.
          let pair = subst (λ ps. Contains ps first.differing) (sym first.split) (Contains-append_right first.before (first.differing ∷ first.after) first.differing (here first.differing first.after)) in
          let own = knows_own x (acts_of s) (Receive i) i.key first.differing.0 first.differing.1 received refl pair in
          first.differs (sound.local.one_value i.key p kept arrived first.knows (subst (λ v. Knows x (acts_of s) i.key p v) (sym first.arrived_is) (subst (λ q. Knows x (acts_of s) i.key q first.differing.1) (sym first.param_is) own))),
      first,
      refl,
    )

-- the key of an event is held
pub event_held : (s : StoreState) (e : Event) → IsSound s → Contains (acts_of s) e → Contains s.keys (instance_of e).key
event_held s e sound among = All-contains (λ f. Contains s.keys (instance_of f).key) (acts_of s) e (all_events s sound) among
  where
    all_events : (t : StoreState) → IsSound t → All (λ f. Contains t.keys (instance_of f).key) (acts_of t)
    all_events t sound_t = All-map (λ f. Contains t.keys (instance_of f).key) (λ g. g.event) t.entries sound_t.held
