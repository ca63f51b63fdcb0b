-- What is quiet comes to rest, and the converse where the roles agree.
use Rattle.std.proofs.Common.{◌≡◌, ℕ, List, [], ◌∷◌, length, refl, sym, ap, ◌∙◌, subst, eq-eqb, arith}
use Rattle.std.specs.Prelude.{◌==◌, zip}
use Rattle.std.specs.List.{Contains}
use Rattle.std.proofs.lemmas.List.Elements.{All-contains}
use Rattle.bspl_types.specs.declared.event.Event.{Event}
use Rattle.bspl_types.specs.declared.event.Event.TheVariants.{Emit, Receive}
use Rattle.bspl_types.specs.declared.event.Instance.{Instance}
use Rattle.bspl_types.specs.declared.expanded.Expanded.{Expanded}
use Rattle.bspl_types.specs.declared.protocol.Carried.{Carried}
use Rattle.bspl_types.specs.declared.value.Value.{Value}
use Rattle.bspl_types.specs.Adornment.{valued}
use Rattle.bspl_types.specs.Expansion.{message_of}
use Rattle.bspl_types.specs.History.{history_of, instance_of, IsRun, role_of}
use Rattle.bspl_types.specs.Instance.{Carries, Fits}
use Rattle.bspl_types.specs.Knowledge.{Knows}
use Rattle.enactment_model.specs.Liveness.{Quiet}
use Rattle.enactment_model.specs.Safety.{Agree}
use Rattle.list_base.proofs.Filtered.{kept_member}
use Rattle.list_base.proofs.Members.{here, nowhere, there}
use Rattle.questions.specs.Answer.{ComesToRest}

-- a quiet enactment comes to rest
pub quiet_to_rest : (x : Expanded) (run : List Event) (key : List Value) → Quiet x run key → ComesToRest x run key []
quiet_to_rest x run key quiet = record {
  arrived = λ m sent. record {
    instance = sent.instance;
    received = quiet.received sent.instance sent.under sent.emitted;
    under = sent.under;
    message_is = sent.message_is;
  };
  exhausted = λ m none unsent can. quiet.exhausted m unsent can;
}

-- two lists of values are one if each parameter has one value in both
same_values : (cs : List Carried) (vs ws : List Value) → length vs ≡ length cs → length ws ≡ length cs → ((c : Carried) (v w : Value) → Contains (zip cs vs) (c, v) → Contains (zip cs ws) (c, w) → v ≡ w) → vs ≡ ws
same_values [] [] [] one other same = refl
same_values [] (v ∷ vs) ws one other same = absurd (omega (arith, one))
same_values [] [] (w ∷ ws) one other same = absurd (omega (arith, other))
same_values (c ∷ cs) [] ws one other same = absurd (omega (arith, one))
same_values (c ∷ cs) (v ∷ vs) [] one other same = absurd (omega (arith, other))
same_values (c ∷ cs) (v ∷ vs) (w ∷ ws) one other same =
    let first = same c v w (here (c, v) (zip cs vs)) (here (c, w) (zip cs ws)) in
    let rest = same_values cs vs ws (omega (arith, one)) (omega (arith, other)) (λ d u z left right. same d u z (there (c, v) (zip cs vs) (d, u) left) (there (c, w) (zip cs ws) (d, z) right)) in
    cc

-- the role of an event knows what its instance carries
known_to_role : (x : Expanded) (run : List Event) (e : Event) (key : List Value) (c : Carried) (v : Value) → Contains run e → (instance_of e).key ≡ key → Carries x (instance_of e) c.adornment c.param v → Knows x (history_of x (role_of x e) run) key c.param v
known_to_role x run e key c v among under carries = record {
  event = e;
  among = kept_member (λ other. role_of x other == role_of x e) run e (eq-eqb (role_of x e) (role_of x e) refl) among;
  under = under;
  adornment = c.adornment;
  carries = carries;
}

-- an instance is its message, its key and its values
abbrev instance_from : ℕ → List Value → List Value → Instance
instance_from m key values = record { message = m; key = key; values = values }

-- so with the same three it is the same
same_instance : (i j : Instance) → i.message ≡ j.message → i.key ≡ j.key → i.values ≡ j.values → i ≡ j
same_instance i j message key values =
    subst (λ (m : ℕ). i ≡ instance_from m j.key j.values) message
    (subst (λ (k : List Value). i ≡ instance_from i.message k j.values) key
    (ap (instance_from i.message i.key) values))

-- two instances of one message under one key, one sent and one received, have the same values
agreed : (x : Expanded) (run : List Event) (i j : Instance) → IsRun x run → Agree x run → i.message ≡ j.message → i.key ≡ j.key → Contains run (Emit i) → Contains run (Receive j) → i.values ≡ j.values
agreed x run i j fits agree message key sent received =
    let i_fits = All-contains (λ e. Fits x (instance_of e)) run (Emit i) fits sent in
    let j_fits = All-contains (λ e. Fits x (instance_of e)) run (Receive j) fits received in
    let cs = valued (message_of x i.message).carried in
    let as_many : length j.values ≡ length cs = subst (λ (m : ℕ). length j.values ≡ length (valued (message_of x m).carried)) (sym message) j_fits.each_value in
    same_values cs i.values j.values i_fits.each_value as_many
    (λ c v w one other.
    let also : Contains (zip (valued (message_of x j.message).carried) j.values) (c, w) = subst (λ (m : ℕ). Contains (zip (valued (message_of x m).carried) j.values) (c, w)) message other in
    agree i.key c.param (role_of x (Emit i)) (role_of x (Receive j)) v w
    (known_to_role x run (Emit i) i.key c v sent refl one)
    (known_to_role x run (Receive j) i.key c w received (sym key) also))

-- what comes to rest is quiet where the roles agree
pub rest_to_quiet : (x : Expanded) (run : List Event) (key : List Value) → IsRun x run → Agree x run → ComesToRest x run key [] → Quiet x run key
rest_to_quiet x run key fits agree rest = record {
  received = λ i under sent.
      let arrived = rest.arrived i.message (record { instance = i; emitted = sent; under = under; message_is = refl }) in
      let j = arrived.instance in
      let message : i.message ≡ j.message = sym arrived.message_is in
      let one_key : i.key ≡ j.key = under ∙ sym arrived.under in
      let same = same_instance i j message one_key (agreed x run i j fits agree message one_key sent arrived.received) in
      subst (λ (k : Instance). Contains run (Receive k)) (sym same) arrived.received;
  exhausted = λ m unsent can. rest.exhausted m (nowhere m) unsent can;
}
