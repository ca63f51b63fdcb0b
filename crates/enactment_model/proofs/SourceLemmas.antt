-- In a legal run every known value goes back to an emission that produced it.
use Rattle.std.proofs.Common.{◌≡◌, ℕ, ◌<◌, ◌≤◌, List, [], ◌∷◌, ◌++◌, length, Some, ⊎_elim, refl, sym, ap, ◌∙◌, subst, true≢false, arith}
use Rattle.std.specs.Prelude.{◌==◌, slice_get}
use Rattle.std.specs.List.{Contains}
use Rattle.std.proofs.lemmas.Bool.{cases_lt, cases_order}
use Rattle.std.proofs.lemmas.List.{append-nil, append_assoc, get_or_past}
use Rattle.std.proofs.lemmas.List.Elements.{All-get_or, Contains-append_left, Contains-push, Contains-push_cases}
use Rattle.std.proofs.lemmas.Option.{same_Some}
use Rattle.list_base.proofs.Filtered.{filtered_member}
use Rattle.list_base.proofs.Membership.{index_of}
use Rattle.list_base.proofs.Partners.{NoRepeat, no_repeat_filter, no_repeat_from_pairs, one_partner}
use Rattle.bspl_types.specs.declared.event.Event.{Event}
use Rattle.bspl_types.specs.declared.event.Event.TheVariants.{Emit, Receive}
use Rattle.bspl_types.specs.declared.event.Instance.{Instance}
use Rattle.bspl_types.specs.declared.expanded.Expanded.{Expanded}
use Rattle.bspl_types.specs.declared.protocol.Adornment.{Adornment}
use Rattle.bspl_types.specs.declared.protocol.Adornment.TheVariants.{In, Out, Nil}
use Rattle.bspl_types.specs.declared.value.Value.{Value}
use Rattle.bspl_types.specs.Admission.{IsAdmitted, IsAdmittedMessage}
use Rattle.bspl_types.specs.Adornment.{has_value, valued}
use Rattle.bspl_types.specs.Expansion.{message_of, no_message}
use Rattle.bspl_types.specs.History.{history_of, instance_of, role_of}
use Rattle.bspl_types.specs.Instance.{Carries}
use Rattle.bspl_types.specs.Knowledge.{Knows}
use Rattle.enactment_model.specs.Legal.{IsLegal, LegalAfter, MayFollow}
use Rattle.enactment_model.specs.Safety.{Agree, Conflict, HasNoConflict}
use Rattle.enactment_model.proofs.KnowledgeLemmas.{carried_with_value}

-- an emission under the key that produced the value
pub record Source (x : Expanded) (run : List Event) (key : List Value) (p : ℕ) (v : Value) : Type 0 where
  pub instance : Instance
  pub emitted : Contains run (Emit instance)
  pub under : instance.key ≡ key
  pub produced : Carries x instance Out p v

-- whatever an event carries has a source
abbrev IsSourced : Expanded → List Event → Type 0
IsSourced x run = (event : Event) → Contains run event → (adornment : Adornment) (p : ℕ) (v : Value) → Carries x (instance_of event) adornment p v → Source x run (instance_of event).key p v

-- a source of part of a run is one of the whole
longer : (x : Expanded) (run more : List Event) (key : List Value) (p : ℕ) (v : Value) → Source x run key p v → Source x (run ++ more) key p v
longer x run more key p v source =
    record { instance = source.instance; emitted = Contains-append_left run more _ source.emitted; under = source.under; produced = source.produced }

-- what is known from a run has a source in it
known_source : (x : Expanded) (run : List Event) (role : ℕ) (key : List Value) (p : ℕ) (v : Value) → IsSourced x run → Knows x (history_of x role run) key p v → Source x run key p v
known_source x run role key p v sourced knows =
    let among = (filtered_member (λ e. role_of x e == role) run knows.event knows.among).0 in
    let source = sourced knows.event among knows.adornment p v knows.carries in
    record { instance = source.instance; emitted = source.emitted; under = source.under ∙ knows.under; produced = source.produced }

-- what the next event carries has a source
next_source : (x : Expanded) (run : List Event) (event : Event) → IsSourced x run → MayFollow x run event → (adornment : Adornment) (p : ℕ) (v : Value) → Carries x (instance_of event) adornment p v → Source x (run ++ event ∷ []) (instance_of event).key p v
next_source x run (Emit i) sourced enabled In p v carries =
    longer x run (Emit i ∷ []) i.key p v (known_source x run (message_of x i.message).sender i.key p v sourced (enabled.same p v carries))
next_source x run (Emit i) sourced enabled Out p v carries = record { instance = i; emitted = Contains-push run (Emit i); under = refl; produced = carries }
next_source x run (Emit i) sourced enabled Nil p v carries = absurd (true≢false (sym (carried_with_value x i Nil p v carries).1))
next_source x run (Receive i) sourced emitted adornment p v carries = longer x run (Receive i ∷ []) i.key p v (sourced (Emit i) emitted adornment p v carries)

-- one more event that may follow
sourced_more : (x : Expanded) (run : List Event) (event : Event) → IsSourced x run → MayFollow x run event → IsSourced x (run ++ event ∷ [])
sourced_more x run event sourced may other among =
    ⊎_elim
    (λ (earlier : Contains run other). λ adornment p v carries. longer x run (event ∷ []) _ p v (sourced other earlier adornment p v carries))
    (λ (is : event ≡ other). subst (λ e. (adornment : Adornment) (p : ℕ) (v : Value) → Carries x (instance_of e) adornment p v → Source x (run ++ event ∷ []) (instance_of e).key p v) is (next_source x run event sourced may))
    (Contains-push_cases run event other among)

-- any number of them
sourced_after : (x : Expanded) (before run : List Event) → IsSourced x before → LegalAfter x before run → IsSourced x (before ++ run)
sourced_after x before [] sourced legal = subst (IsSourced x) (sym (append-nil before)) sourced
sourced_after x before (event ∷ run) sourced legal =
    subst (IsSourced x) (append_assoc before (event ∷ []) run) (sourced_after x (before ++ event ∷ []) run (sourced_more x before event sourced legal.0) legal.1)

-- whatever an event of a legal run carries has a source
legal_sourced : (x : Expanded) (run : List Event) → IsLegal x run → IsSourced x run
legal_sourced x run legal = sourced_after x [] run (λ event among. absurd (omega arith)) legal

-- no parameter comes twice in a message
carried_once : (x : Expanded) → IsAdmitted x → (m : ℕ) → NoRepeat (message_of x m).carried
carried_once x admitted m =
    ⊎_elim
    (λ (known : m < length x.messages). let distinct = (All-get_or (IsAdmittedMessage x.keys) x.messages m no_message known admitted.each_message).distinct in
    no_repeat_from_pairs (message_of x m).carried (λ i j d before within same. distinct i j d before within (ap (λ c. c.param) same)))
    (λ (past : length x.messages ≤ m). subst (λ message. NoRepeat message.carried) (sym (get_or_past x.messages m no_message past)) tt)
    (cases_lt m (length x.messages))

-- an instance has one value of a parameter
one_value : (x : Expanded) → IsAdmitted x → (i : Instance) (p : ℕ) (v w : Value) → Carries x i Out p v → Carries x i Out p w → v ≡ w
one_value x admitted i p v w one other =
    one_partner (valued (message_of x i.message).carried) i.values _ v w (no_repeat_filter (λ c. has_value c.adornment) (message_of x i.message).carried (carried_once x admitted i.message)) one other

-- two sources at two positions are a conflict
rival_sources : (x : Expanded) (run : List Event) (key : List Value) (p : ℕ) (v w : Value) (one : Source x run key p v) (other : Source x run key p w) (position later : ℕ) → slice_get run position ≡ Some (Emit one.instance) → slice_get run later ≡ Some (Emit other.instance) → position < later → Conflict x run key p position later
rival_sources x run key p v w one other position later one_at other_at in_order =
    record {
      in_order = in_order;
      first_produces = record { instance = one.instance; emitted = one_at; under = one.under; adorned = (carried_with_value x one.instance Out p v one.produced).0 };
      second_produces = record { instance = other.instance; emitted = other_at; under = other.under; adorned = (carried_with_value x other.instance Out p w other.produced).0 };
    }

-- without a conflict two sources are one
same_value_of_sources : (x : Expanded) (run : List Event) (key : List Value) (p : ℕ) (v w : Value) → IsAdmitted x → HasNoConflict x run → Source x run key p v → Source x run key p w → v ≡ w
same_value_of_sources x run key p v w admitted no_conflict one other =
    let (position, one_at) = index_of run (Emit one.instance) one.emitted in
    let (later, other_at) = index_of run (Emit other.instance) other.emitted in
    ⊎_elim
    (λ (same : position ≡ later). one_value x admitted one.instance p v w one.produced (subst (λ i. Carries x i Out p w) (sym (same_instance one.instance other.instance (sym one_at ∙ ap (slice_get run) same ∙ other_at))) other.produced))
    (⊎_elim
    (λ (before : position < later). absurd (no_conflict key p position later (rival_sources x run key p v w one other position later one_at other_at before)))
    (λ (after : later < position). absurd (no_conflict key p later position (rival_sources x run key p w v other one later position other_at one_at after))))
    (cases_order position later)
  where
    same_instance : (i j : Instance) → Some (Emit i) ≡ Some (Emit j) → i ≡ j
    same_instance i j same = ap instance_of (same_Some (Emit i) (Emit j) same)

-- so a legal run without a conflict agrees
pub agree_without_conflict : (x : Expanded) (run : List Event) → IsAdmitted x → IsLegal x run → HasNoConflict x run → Agree x run
agree_without_conflict x run admitted legal no_conflict key p role other v w one_knows other_knows =
    same_value_of_sources x run key p v w admitted no_conflict (known_source x run role key p v (legal_sourced x run legal) one_knows) (known_source x run other key p w (legal_sourced x run legal) other_knows)
