-- In a legal run of Rivals the two roles know different values of x.
use Rattle.std.proofs.Common.{◌≡◌, ◌≢◌, ℕ, false, zero, suc, ◌<◌, List, [], ◌∷◌, length, Some, None, refl, ap, arith, codes}
use Rattle.std.specs.Prelude.{IsTrue, slice_get}
use Rattle.std.specs.List.{All}
use Rattle.std.proofs.lemmas.List.Elements.{All-nil}
use Rattle.std.proofs.lemmas.Option.{none-some, same_Some}
use Rattle.list_base.proofs.Members.{here, there}
use Rattle.bspl_types.specs.declared.event.Event.{Event}
use Rattle.bspl_types.specs.declared.event.Event.TheVariants.{Emit}
use Rattle.bspl_types.specs.declared.event.Instance.{Instance}
use Rattle.bspl_types.specs.declared.expanded.Expanded.{Expanded}
use Rattle.bspl_types.specs.declared.protocol.Adornment.TheVariants.{Out}
use Rattle.bspl_types.specs.declared.protocol.Carried.{Carried}
use Rattle.bspl_types.specs.declared.protocol.Message.{Message}
use Rattle.bspl_types.specs.declared.protocol.ParamInfo.{ParamInfo}
use Rattle.bspl_types.specs.declared.value.Value.{Value}
use Rattle.bspl_types.specs.declared.value.Value.TheVariants.{Number}
use Rattle.bspl_types.specs.Admission.{IsAdmitted, IsAdmittedMessage}
use Rattle.bspl_types.specs.Adornment.{Binds}
use Rattle.bspl_types.specs.History.{history_of, instance_of}
use Rattle.bspl_types.specs.Instance.{Fits}
use Rattle.bspl_types.specs.KeyAgrees.{KeyAgrees}
use Rattle.bspl_types.specs.Knowledge.{Knows}
use Rattle.bspl_types.specs.Name.{is_name}
use Rattle.bspl_types.specs.Shape.{IsMessageOf, IsWellFormed, is_public_value}
use Rattle.enactment_model.specs.Examples.{RivalsDisagree, out_parameter, producer}
use Rattle.enactment_model.specs.Legal.{IsLegalRun}
use Rattle.enactment_model.specs.Safety.{Agree}
use Rattle.enactment_model.proofs.ExampleRuns.{enabled_first, key_value, ones}
use Rattle.enactment_model.proofs.ExampleShapes.{IsName, both, distinct_bytes, id_info, one, out_id, roles, same_parts, two_items}

-- x, adorned `out`, and what is declared of it
abbrev out_x : Carried
out_x = record { param = 1; adornment = Out }

abbrev x_info : ParamInfo
x_info = out_parameter (codes "x") false

-- the two messages
abbrev m_message : Message
m_message = producer (codes "m") 0 1 (0 ∷ 1 ∷ [])

abbrev n_message : Message
n_message = producer (codes "n") 1 0 (0 ∷ 1 ∷ [])

-- a message from A to B, or from B to A
message_of_two : (name : List ℕ) (sender receiver : ℕ) → sender < 2 → receiver < 2 → IsMessageOf 2 2 (producer name sender receiver (0 ∷ 1 ∷ []))
message_of_two name sender receiver known_sender known_receiver =
    record {
      known_sender = known_sender;
      known_receiver = known_receiver;
      known_params = both (λ c. c.param < 2) out_id out_x (omega arith) (omega arith);
      some = omega arith;
      few = omega arith;
    }

-- names of different lengths
distinct_names : codes "ID" ≢ codes "x"
distinct_names same = absurd (omega (arith, ap length same))

-- Rivals is well formed
rivals_shape : IsWellFormed (codes "Rivals") roles (id_info ∷ x_info ∷ []) 2 (0 ∷ []) (m_message ∷ n_message ∷ [])
unfolding is_name
rivals_shape =
    record {
      named = refl;
      role_names = record { named = both IsName (codes "A") (codes "B") refl refl; distinct = two_items ◌≢◌ (codes "A") (codes "B") (distinct_bytes 65 66 (omega arith)) };
      some_role = omega arith;
      param_names = record { named = both (λ p. IsName p.name) id_info x_info refl refl; distinct = two_items (λ p q. p.name ≢ q.name) id_info x_info distinct_names };
      message_names = record { named = both (λ m. IsName m.name) m_message n_message refl refl; distinct = two_items (λ m n. m.name ≢ n.name) m_message n_message (distinct_bytes 109 110 (omega arith)) };
      declared = record {
        some_public = omega arith;
        within = omega arith;
        public_adorned = both (λ p. p.adornment ≢ None) id_info x_info (λ same. cc) (λ same. cc);
        private_bare = All-nil (λ p. p.adornment ≡ None);
        keys_bound = both (λ p. IsTrue p.key → IsTrue (is_public_value p.adornment)) id_info x_info (λ is_key. refl) (λ is_key. refl);
      };
      key_list = refl;
      each_message = both (IsMessageOf 2 2) m_message n_message (message_of_two (codes "m") 0 1 (omega arith) (omega arith)) (message_of_two (codes "n") 1 0 (omega arith) (omega arith));
      counts = record { few_roles = omega arith; few_params = omega arith; few_keys = omega arith; few_messages = omega arith };
    }

abbrev rivals : Expanded
rivals = record { name = codes "Rivals"; roles = roles; params = id_info ∷ x_info ∷ []; public = 2; keys = 0 ∷ []; messages = m_message ∷ n_message ∷ []; shape = rivals_shape }

-- each of its messages is admitted
admitted_message : (name : List ℕ) (sender receiver : ℕ) → sender ≢ receiver → IsAdmittedMessage (0 ∷ []) (producer name sender receiver (0 ∷ 1 ∷ []))
admitted_message name sender receiver two_roles =
    record {
      two_roles = two_roles;
      distinct = two_items (λ c d. c.param ≢ d.param) out_id out_x (omega arith);
      whole_key = one (Binds (out_id ∷ out_x ∷ [])) 0 (record { among = (0, out_id, omega arith, refl, (refl, refl)) });
    }

rivals_admitted : IsAdmitted rivals
rivals_admitted =
    record {
      some_key = omega arith;
      each_message = both (IsAdmittedMessage (0 ∷ [])) m_message n_message (admitted_message (codes "m") 0 1 (omega arith)) (admitted_message (codes "n") 1 0 (omega arith));
    }

-- an instance of the message of that number, under the key of ones, with this value of x
abbrev instance_with : ℕ → ℕ → Instance
instance_with m value = record { message = m; key = ones; values = Number 1 ∷ Number value ∷ [] }

-- x is no key
no_key : (value index : ℕ) → slice_get {X = ℕ} (0 ∷ []) index ≡ Some 1 → slice_get ones index ≡ Some (Number value)
no_key value zero at = absurd (omega (arith, same_Some 0 1 at))
no_key value (suc index) at = absurd (none-some 1 at)

-- its key is its own
key_values : (value : ℕ) → All (KeyAgrees (0 ∷ []) ones) ((out_id, Number 1) ∷ (out_x, Number value) ∷ [])
key_values value = both (KeyAgrees (0 ∷ []) ones) (out_id, Number 1) (out_x, Number value) (record { same = key_value }) (record { same = no_key value })

-- both messages are emitted, neither role having heard of the other
abbrev rival_run : List Event
rival_run = Emit (instance_with 0 1) ∷ Emit (instance_with 1 2) ∷ []

only_produces : All (λ c. c.adornment ≡ Out) (out_id ∷ out_x ∷ [])
only_produces = both (λ c. c.adornment ≡ Out) out_id out_x refl refl

rival_run_legal : IsLegalRun rivals rival_run
rival_run_legal =
    record {
      fits = both (λ e. Fits rivals (instance_of e)) (Emit (instance_with 0 1)) (Emit (instance_with 1 2))
          (record { known = omega arith; each_value = refl; key_length = refl; key_values = key_values 1 })
          (record { known = omega arith; each_value = refl; key_length = refl; key_values = key_values 2 });
      legal = (enabled_first rivals (instance_with 0 1) (omega arith) only_produces, (enabled_first rivals (instance_with 1 2) (omega arith) only_produces, tt));
    }

-- A knows the value 1 of x, and B the value 2
first_knows : Knows rivals (history_of rivals 0 rival_run) ones 1 (Number 1)
first_knows = record { event = Emit (instance_with 0 1); among = here (Emit (instance_with 0 1)) []; under = refl; adornment = Out; carries = there (out_id, Number 1) ((out_x, Number 1) ∷ []) (out_x, Number 1) (here (out_x, Number 1) []) }

second_knows : Knows rivals (history_of rivals 1 rival_run) ones 1 (Number 2)
second_knows = record { event = Emit (instance_with 1 2); among = here (Emit (instance_with 1 2)) []; under = refl; adornment = Out; carries = there (out_id, Number 1) ((out_x, Number 2) ∷ []) (out_x, Number 2) (here (out_x, Number 2) []) }

-- so they do not agree
rival_run_disagrees : ¬ Agree rivals rival_run
rival_run_disagrees agree =
    let same : Number 1 ≡ Number 2 = agree ones 1 0 1 (Number 1) (Number 2) first_knows second_knows in
    absurd (omega (arith, ap number same))
  where
    number : Value → ℕ
    number (Number n) = n
    number other = 0

pub rivals_disagree : RivalsDisagree
rivals_disagree = record { x = rivals; is_rivals = same_parts rivals; admitted = rivals_admitted; run = rival_run; legal = rival_run_legal; disagree = rival_run_disagrees }
