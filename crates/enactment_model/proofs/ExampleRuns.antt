-- Runs of Ping, Twin and Nothing: their legality, conflict and quietness.
use Rattle.std.proofs.Common.{◌≡◌, ℕ, zero, suc, ◌<◌, List, [], ◌∷◌, length, Some, inl, inr, refl, sym, ap, subst, arith, zip}
use Rattle.std.specs.Prelude.{slice_get}
use Rattle.std.specs.List.{All, Contains}
use Rattle.std.proofs.lemmas.List.Elements.{All-contains}
use Rattle.std.proofs.lemmas.Option.{none-some}
use Rattle.list_base.proofs.Members.{cons_cases, here, nowhere, only, there}
use Rattle.bspl_types.specs.declared.event.Event.{Event}
use Rattle.bspl_types.specs.declared.event.Event.TheVariants.{Emit, Receive}
use Rattle.bspl_types.specs.declared.event.Instance.{Instance}
use Rattle.bspl_types.specs.declared.expanded.Expanded.{Expanded}
use Rattle.bspl_types.specs.declared.protocol.Adornment.TheVariants.{In, Out}
use Rattle.bspl_types.specs.declared.value.Value.{Value}
use Rattle.bspl_types.specs.declared.value.Value.TheVariants.{Number}
use Rattle.bspl_types.specs.Adornment.{valued}
use Rattle.bspl_types.specs.Expansion.{Adorns, message_of}
use Rattle.bspl_types.specs.History.{instance_of}
use Rattle.bspl_types.specs.Instance.{Fits}
use Rattle.bspl_types.specs.KeyAgrees.{KeyAgrees}
use Rattle.bspl_types.specs.Knowledge.{CanEmit, IsEnabled, IsKnown}
use Rattle.enactment_model.specs.Legal.{IsLegalRun}
use Rattle.enactment_model.specs.Liveness.{Quiet}
use Rattle.enactment_model.specs.Safety.{Conflict}
use Rattle.enactment_model.proofs.KnowledgeLemmas.{carried_with_value}
use Rattle.enactment_model.proofs.ExampleShapes.{both, nothing, one, out_id, ping, twin}

-- the key of ones, and its one value
abbrev pub ones : List Value
ones = Number 1 ∷ []

-- an instance of the message of that number, under the key of ones
abbrev pub instance_at : ℕ → Instance
instance_at m = record { message = m; key = ones; values = ones }

-- nothing is known from no events
pub nothing_known : (x : Expanded) (key : List Value) (p : ℕ) → ¬ IsKnown x [] key p
nothing_known x key p known = nowhere known.1.event known.1.among

-- each parameter that the message carries is adorned `out`
abbrev pub OnlyProduces : Expanded → ℕ → Type 0
OnlyProduces x m = All (λ c. c.adornment ≡ Out) (message_of x m).carried

-- so it has no `in` parameter
no_in : (x : Expanded) (m p : ℕ) → OnlyProduces x m → ¬ Adorns x m In p
no_in x m p only_produces adorned =
    let in_is_out : In ≡ Out = All-contains (λ c. c.adornment ≡ Out) (message_of x m).carried (record { param = p; adornment = In }) only_produces adorned in cc

-- it can be emitted where no parameter is known
pub can_produce : (x : Expanded) (history : List Event) (m : ℕ) (key : List Value) → m < length x.messages → OnlyProduces x m → ((p : ℕ) → ¬ IsKnown x history key p) → CanEmit x history m key
can_produce x history m key known only_produces unknown =
    record {
      known = known;
      ins = λ p adorned. absurd (no_in x m p only_produces adorned);
      outs = λ p adorned. unknown p;
      nils = λ p adorned. unknown p;
    }

-- so an instance of it is enabled where nothing has happened
pub enabled_first : (x : Expanded) (i : Instance) → i.message < length x.messages → OnlyProduces x i.message → IsEnabled x [] i
enabled_first x i known only_produces =
    record {
      can = can_produce x [] i.message i.key known only_produces (nothing_known x i.key);
      same = λ p v carries. absurd (no_in x i.message p only_produces (carried_with_value x i In p v carries).0);
    }

-- a message that produces ID alone
pub produces_id : All (λ c. c.adornment ≡ Out) (out_id ∷ [])
produces_id = one (λ c. c.adornment ≡ Out) out_id refl

-- the value of ID is the key's
pub key_value : (index : ℕ) → slice_get {X = ℕ} (0 ∷ []) index ≡ Some 0 → slice_get ones index ≡ Some (Number 1)
key_value zero at = refl
key_value (suc index) at = absurd (none-some 0 at)

-- in a protocol on ID an instance under the key of ones fits
pub instance_fits : (x : Expanded) (m : ℕ) → m < length x.messages → x.keys ≡ 0 ∷ [] → (message_of x m).carried ≡ out_id ∷ [] → Fits x (instance_at m)
instance_fits x m known keys_are carried_is =
    record {
      known = known;
      each_value = ap (λ carried. length (valued carried)) (sym carried_is);
      key_length = ap length (sym keys_are);
      key_values = subst (λ keys. All (KeyAgrees keys ones) (zip (valued (message_of x m).carried) ones)) (sym keys_are) (subst (λ carried. All (KeyAgrees (0 ∷ []) ones) (zip (valued carried) ones)) (sym carried_is) (one (KeyAgrees (0 ∷ []) ones) (out_id, Number 1) (record { same = key_value })));
    }

-- both messages of Twin are emitted, neither role having heard of the other
abbrev pub twin_run : List Event
twin_run = Emit (instance_at 0) ∷ Emit (instance_at 1) ∷ []

pub twin_run_legal : IsLegalRun twin twin_run
twin_run_legal =
    record {
      fits = both (λ e. Fits twin (instance_of e)) (Emit (instance_at 0)) (Emit (instance_at 1)) (instance_fits twin 0 (omega arith) refl refl) (instance_fits twin 1 (omega arith) refl refl);
      legal = (enabled_first twin (instance_at 0) (omega arith) produces_id, (enabled_first twin (instance_at 1) (omega arith) produces_id, tt));
    }

-- both produce ID
pub twin_conflict : Conflict twin twin_run ones 0 0 1
twin_conflict =
    record {
      in_order = omega arith;
      first_produces = record { instance = instance_at 0; emitted = refl; under = refl; adorned = (0, omega arith, refl) };
      second_produces = record { instance = instance_at 1; emitted = refl; under = refl; adorned = (0, omega arith, refl) };
    }

-- ping's emission and its reception
abbrev pub ping_run : List Event
ping_run = Emit (instance_at 0) ∷ Receive (instance_at 0) ∷ []

pub ping_run_legal : IsLegalRun ping ping_run
ping_run_legal =
    record {
      fits = both (λ e. Fits ping (instance_of e)) (Emit (instance_at 0)) (Receive (instance_at 0)) (instance_fits ping 0 (omega arith) refl refl) (instance_fits ping 0 (omega arith) refl refl);
      legal = (enabled_first ping (instance_at 0) (omega arith) produces_id, (here (Emit (instance_at 0)) [], tt));
    }

-- the one emission of the run is that of the instance
pub emitted_instance : (i : Instance) → Contains ping_run (Emit i) → instance_at 0 ≡ i
emitted_instance i among =
    elim (cons_cases (Emit (instance_at 0)) (Receive (instance_at 0) ∷ []) (Emit i) among) [
      | inl is ↦ ap instance_of is
      | inr later ↦ let other = only (Receive (instance_at 0)) (Emit i) later in cc
    ]

-- the run is quiet at the key of ones
pub ping_run_quiet : Quiet ping ping_run ones
ping_run_quiet =
    record {
      received = λ i own emitted. subst (λ j. Contains ping_run (Receive j)) (emitted_instance i emitted) (there (Emit (instance_at 0)) (Receive (instance_at 0) ∷ []) (Receive (instance_at 0)) (here (Receive (instance_at 0)) []));
      exhausted = λ m none can. none (record { instance = instance_at 0; emitted = here (Emit (instance_at 0)) (Receive (instance_at 0) ∷ []); under = refl; message_is = omega (arith, can.known) });
    }

-- without the reception it is not
pub ping_run_restless : ¬ Quiet ping (Emit (instance_at 0) ∷ []) ones
ping_run_restless quiet =
    let arrived = only (Emit (instance_at 0)) (Receive (instance_at 0)) (quiet.received (instance_at 0) refl (here (Emit (instance_at 0)) [])) in cc

-- without events Nothing is quiet
pub nothing_quiet : Quiet nothing [] ones
nothing_quiet =
    record {
      received = λ i own emitted. absurd (nowhere (Emit i) emitted);
      exhausted = λ m none can. absurd (omega (arith, can.known));
    }
