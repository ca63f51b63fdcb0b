-- The expansions of Ping, Twin and Nothing are well formed and admitted.
use Rattle.std.proofs.Common.{◌≡◌, ◌≢◌, ℕ, zero, suc, ◌<◌, ◌≤◌, true, List, [], ◌∷◌, length, get_or, None, refl, ap, arith, codes}
use Rattle.std.specs.Prelude.{IsTrue}
use Rattle.std.specs.List.{All, AllPairs}
use Rattle.std.proofs.lemmas.List.Elements.{All-cons, All-nil}
use Rattle.bspl_types.specs.declared.expanded.Expanded.{Expanded}
use Rattle.bspl_types.specs.declared.protocol.Adornment.TheVariants.{Out}
use Rattle.bspl_types.specs.declared.protocol.Carried.{Carried}
use Rattle.bspl_types.specs.declared.protocol.Message.{Message}
use Rattle.bspl_types.specs.declared.protocol.ParamInfo.{ParamInfo}
use Rattle.bspl_types.specs.Admission.{IsAdmitted, IsAdmittedMessage}
use Rattle.bspl_types.specs.Adornment.{Binds}
use Rattle.bspl_types.specs.Name.{is_name}
use Rattle.bspl_types.specs.Parts.{HasParts}
use Rattle.bspl_types.specs.Shape.{AreNamed, is_public_value, IsMessageOf, IsWellFormed}
use Rattle.enactment_model.specs.Examples.{out_parameter, producer}

-- ID, adorned `out`
abbrev pub out_id : Carried
out_id = record { param = 0; adornment = Out }

-- of one item and those after it, no two are related
pub one_item : {X : Type 0} (R : X → X → Type 0) (x : X) → AllPairs R (x ∷ [])
one_item R x = λ i j d before within. absurd (omega arith)

-- two items that are related
pub two_items : {X : Type 0} (R : X → X → Type 0) (x y : X) → R x y → AllPairs R (x ∷ y ∷ [])
two_items R x y related zero zero d before within = absurd (omega arith)
two_items R x y related zero (suc zero) d before within = related
two_items R x y related zero (suc (suc j)) d before within = absurd (omega arith)
two_items R x y related (suc i) j d before within = absurd (omega arith)

-- what holds of one item holds of each in the list of it
pub one : {X : Type 0} (P : X → Type 0) (x : X) → P x → All P (x ∷ [])
one P x holds = All-cons P x [] holds (All-nil P)

-- likewise of two
pub both : {X : Type 0} (P : X → Type 0) (x y : X) → P x → P y → All P (x ∷ y ∷ [])
both P x y holds also = All-cons P x (y ∷ []) holds (one P y also)

-- texts of one byte each, which differ
pub distinct_bytes : (a b : ℕ) → a ≢ b → (a ∷ []) ≢ (b ∷ [])
distinct_bytes a b differ same = differ (ap (λ bytes. get_or bytes 0 0) same)

-- the bytes are a name
abbrev pub IsName : List ℕ → Type 0
IsName bytes = IsTrue (is_name bytes)

-- the roles A and B
abbrev pub roles : List (List ℕ)
roles = codes "A" ∷ codes "B" ∷ []

-- the parameter ID
abbrev pub id_info : ParamInfo
id_info = out_parameter (codes "ID") true

-- a protocol on ID is well formed
pub well_formed : (name : List ℕ) (messages : List Message) → IsTrue (is_name name) → AreNamed (λ m. m.name) messages → All (IsMessageOf 2 1) messages → length messages ≤ 64 → IsWellFormed name roles (id_info ∷ []) 1 (0 ∷ []) messages
unfolding is_name
well_formed name messages is_named message_names each_message few =
    record {
      named = is_named;
      role_names = record { named = both IsName (codes "A") (codes "B") refl refl; distinct = two_items ◌≢◌ (codes "A") (codes "B") (distinct_bytes 65 66 (omega arith)) };
      some_role = omega arith;
      param_names = record { named = one (λ p. IsName p.name) id_info refl; distinct = one_item (λ p q. p.name ≢ q.name) id_info };
      message_names = message_names;
      declared = record {
        some_public = omega arith;
        within = omega arith;
        public_adorned = one (λ p. p.adornment ≢ None) id_info (λ same. cc);
        private_bare = All-nil (λ p. p.adornment ≡ None);
        keys_bound = one (λ p. IsTrue p.key → IsTrue (is_public_value p.adornment)) id_info (λ is_key. refl);
      };
      key_list = refl;
      each_message = each_message;
      counts = record { few_roles = omega arith; few_params = omega arith; few_keys = omega arith; few_messages = few };
    }

-- a message from A to B, or from B to A
pub producer_of_two : (name : List ℕ) (sender receiver : ℕ) → sender < 2 → receiver < 2 → IsMessageOf 2 1 (producer name sender receiver (0 ∷ []))
producer_of_two name sender receiver known_sender known_receiver =
    record {
      known_sender = known_sender;
      known_receiver = known_receiver;
      known_params = one (λ c. c.param < 1) out_id (omega arith);
      some = omega arith;
      few = omega arith;
    }

-- the expansion of that name with these messages
abbrev pub on_id : (name : List ℕ) (messages : List Message) → IsWellFormed name roles (id_info ∷ []) 1 (0 ∷ []) messages → Expanded
on_id name messages shape = record { name = name; roles = roles; params = id_info ∷ []; public = 1; keys = 0 ∷ []; messages = messages; shape = shape }

-- the messages of the three protocols
abbrev pub ping_message : Message
ping_message = producer (codes "ping") 0 1 (0 ∷ [])

abbrev pub m_message : Message
m_message = producer (codes "m") 0 1 (0 ∷ [])

abbrev pub n_message : Message
n_message = producer (codes "n") 1 0 (0 ∷ [])

-- Ping
pub ping_shape : IsWellFormed (codes "Ping") roles (id_info ∷ []) 1 (0 ∷ []) (ping_message ∷ [])
unfolding is_name
ping_shape =
    well_formed (codes "Ping") (ping_message ∷ []) refl
    (record { named = one (λ m. IsName m.name) ping_message refl; distinct = one_item (λ m n. m.name ≢ n.name) ping_message })
    (one (IsMessageOf 2 1) ping_message (producer_of_two (codes "ping") 0 1 (omega arith) (omega arith)))
    (omega arith)

abbrev pub ping : Expanded
ping = on_id (codes "Ping") (ping_message ∷ []) ping_shape

-- Twin
pub twin_shape : IsWellFormed (codes "Twin") roles (id_info ∷ []) 1 (0 ∷ []) (m_message ∷ n_message ∷ [])
unfolding is_name
twin_shape =
    well_formed (codes "Twin") (m_message ∷ n_message ∷ []) refl
    (record { named = both (λ m. IsName m.name) m_message n_message refl refl; distinct = two_items (λ m n. m.name ≢ n.name) m_message n_message (distinct_bytes 109 110 (omega arith)) })
    (both (IsMessageOf 2 1) m_message n_message (producer_of_two (codes "m") 0 1 (omega arith) (omega arith)) (producer_of_two (codes "n") 1 0 (omega arith) (omega arith)))
    (omega arith)

abbrev pub twin : Expanded
twin = on_id (codes "Twin") (m_message ∷ n_message ∷ []) twin_shape

-- Nothing
pub nothing_shape : IsWellFormed (codes "Nothing") roles (id_info ∷ []) 1 (0 ∷ []) []
unfolding is_name
nothing_shape =
    well_formed (codes "Nothing") [] refl
    (record { named = All-nil (λ m. IsName m.name); distinct = λ i j d before within. absurd (omega arith) })
    (All-nil (IsMessageOf 2 1))
    (omega arith)

abbrev pub nothing : Expanded
nothing = on_id (codes "Nothing") [] nothing_shape

-- a message that produces ID is admitted
pub admitted_producer : (name : List ℕ) (sender receiver : ℕ) → sender ≢ receiver → IsAdmittedMessage (0 ∷ []) (producer name sender receiver (0 ∷ []))
admitted_producer name sender receiver two_roles =
    record {
      two_roles = two_roles;
      distinct = one_item (λ c d. c.param ≢ d.param) out_id;
      whole_key = one (Binds (out_id ∷ [])) 0 (record { among = (0, out_id, omega arith, refl, (refl, refl)) });
    }

-- Twin is admitted
pub twin_admitted : IsAdmitted twin
twin_admitted =
    record {
      some_key = omega arith;
      each_message = both (IsAdmittedMessage (0 ∷ [])) m_message n_message (admitted_producer (codes "m") 0 1 (omega arith)) (admitted_producer (codes "n") 1 0 (omega arith));
    }

-- Nothing is admitted
pub nothing_admitted : IsAdmitted nothing
nothing_admitted = record { some_key = omega arith; each_message = All-nil (IsAdmittedMessage (0 ∷ [])) }

-- Ping is admitted
pub ping_admitted : IsAdmitted ping
ping_admitted =
    record {
      some_key = omega arith;
      each_message = one (IsAdmittedMessage (0 ∷ [])) ping_message (admitted_producer (codes "ping") 0 1 (omega arith));
    }

-- the parts of an expansion are its parts
pub same_parts : (x : Expanded) → HasParts x x.name x.roles x.params x.public x.messages
same_parts x = record { same_name = refl; same_roles = refl; same_params = refl; same_public = refl; same_messages = refl }
