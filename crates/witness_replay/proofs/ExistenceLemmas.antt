-- Each assignment that satisfies the shared clauses has a run.
use Rattle.std.proofs.Common.{◌≡◌, ◌⊎◌, inl, inr, ℕ, zero, suc, ◌+◌, ◌-◌, ◌/◌, ◌%◌, ◌<◌, ◌≤◌, Bool, List, [], ◌∷◌, ◌++◌, get_or, length, take, Contains, refl, sym, ap, ◌∙◌, subst, arith, add-one}
use Rattle.std.specs.Prelude.{◌==◌}
use Rattle.std.proofs.lemmas.Bool.{both_ways, cases_Bool, cases_eq}
use Rattle.std.proofs.lemmas.List.{take_all, take_more}
use Rattle.std.proofs.lemmas.List.Elements.{All-cons, All-nil}
use Rattle.std.proofs.lemmas.Option.{slice_get-get_or}
use Rattle.list_base.proofs.Filtered.{filtered_member}
use Rattle.list_base.proofs.Mapped.{partners}
use Rattle.list_base.proofs.Members.{cons_cases, here, nowhere, only, there}
use Rattle.bspl_types.specs.declared.event.Event.{Event}
use Rattle.bspl_types.specs.declared.event.Event.TheVariants.{Emit, Receive}
use Rattle.bspl_types.specs.declared.event.Instance.{Instance}
use Rattle.bspl_types.specs.declared.expanded.Expanded.{Expanded}
use Rattle.bspl_types.specs.declared.protocol.Adornment.{Adornment}
use Rattle.bspl_types.specs.declared.protocol.Adornment.TheVariants.{In, Nil, Out}
use Rattle.bspl_types.specs.declared.protocol.Carried.{Carried}
use Rattle.bspl_types.specs.declared.value.Value.{Value}
use Rattle.bspl_types.specs.declared.value.Value.TheVariants.{Number}
use Rattle.bspl_types.specs.Adornment.{Binds, has_value, valued}
use Rattle.bspl_types.specs.Expansion.{Adorns, message_of}
use Rattle.bspl_types.specs.History.{instance_of, role_of, sender_history}
use Rattle.bspl_types.specs.Instance.{Fits}
use Rattle.bspl_types.specs.Knowledge.{CanEmit, IsKnown}
use Rattle.clause_core.specs.Clause.{SatisfiesAll}
use Rattle.clause_encoding.specs.declared.variables.Variables.{Variables}
use Rattle.clause_encoding.specs.Carriers.{binds}
use Rattle.clause_encoding.specs.Families.{order_clauses, shared_clauses}
use Rattle.clause_encoding.specs.Variables.{received, sent}
use Rattle.enactment_model.specs.Laws.{HistoryIsRun, KnownExactlyIfSomeEventBinds}
use Rattle.first_occurrences.specs.Occurrence.{kind_of}
use Rattle.first_occurrences.specs.Report.{AreVariablesOf}
use Rattle.role_knowledge.specs.FirstKnown.{IsFirstKnown}
use Rattle.witness_replay.specs.Witness.{AreOrdered, IsRunOfAssignment, IsRunOfKinds, IsWitness, IsWitnessEvent, key_of_ones}
use Rattle.witness_replay.specs.inner.Order.{AreOrderedBelow, inserted}
use Rattle.witness_replay.specs.inner.Steps.{MayHappen}
use Rattle.witness_replay.specs.inner.Values.{HasValueOf}
use Rattle.witness_replay.proofs.CarrierLemmas.{binding_from, binds_from}
use Rattle.witness_replay.proofs.FamilyLemmas.{families}
use Rattle.witness_replay.proofs.HappenLemmas.{may_happen}
use Rattle.witness_replay.proofs.InsertLemmas.{ordered_all, ordered_more, ordered_none, ordered_same}
use Rattle.witness_replay.proofs.LegalLemmas.{key_or_not}
use Rattle.witness_replay.proofs.ListedLemmas.{each_member}
use Rattle.witness_replay.proofs.RunLemmas.{IsUnderOnes, run_more, run_none, under_ones}
use Rattle.witness_replay.proofs.ValueLemmas.{is_witness}

-- the kinds up to a number that occur have an order
kinds_below : (vars : Variables) (v : ℕ → Bool) → SatisfiesAll v (order_clauses vars) → (n : ℕ) → n ≤ vars.kinds → (kinds : List ℕ) × AreOrderedBelow vars v (n + 1) kinds
kinds_below vars v satisfied zero few = ([], ordered_none vars v)
kinds_below vars v satisfied (suc n) few =
    let (kinds, below) = kinds_below vars v satisfied n (omega arith) in
    let one_more : AreOrderedBelow vars v (suc n) kinds = subst (λ k. AreOrderedBelow vars v k kinds) (add-one n) below in
    elim (cases_Bool (v (suc n))) [
      | inl occurs ↦ (inserted vars v (suc n) kinds, ordered_more vars v (suc n) kinds satisfied (record { from_one = omega arith; up_to = few }) occurs one_more)
      | inr never ↦ (kinds, ordered_same vars v (suc n) kinds never one_more)
    ]

-- so all that occur have one
pub kinds_exist : (vars : Variables) (v : ℕ → Bool) → SatisfiesAll v (order_clauses vars) → (kinds : List ℕ) × AreOrdered vars v kinds
kinds_exist vars v satisfied =
    let (kinds, below) = kinds_below vars v satisfied vars.kinds (omega arith) in
    (kinds, ordered_all vars v (vars.kinds + 1) kinds (omega arith) below)

-- what is known from more events is known from the first one or from the others
known_cases : (x : Expanded) (e : Event) (history : List Event) (key : List Value) (p : ℕ) → IsKnown x (e ∷ history) key p → IsKnown x (e ∷ []) key p ⊎ IsKnown x history key p
known_cases x e history key p (v, knows) = elim (cons_cases e history knows.event knows.among) [
  | inl is ↦ inl (v, record { event = knows.event; among = subst (Contains (e ∷ [])) is (here e []); under = knows.under; adornment = knows.adornment; carries = knows.carries })
  | inr later ↦ inr (v, record { event = knows.event; among = later; under = knows.under; adornment = knows.adornment; carries = knows.carries })
]

module _ (x : Expanded) (known : KnownExactlyIfSomeEventBinds) where
  -- an event under the key of ones makes a parameter known or not
  known_or_not : (e : Event) (p : ℕ) → IsUnderOnes x e → IsKnown x (e ∷ []) (key_of_ones x) p ⊎ (¬ IsKnown x (e ∷ []) (key_of_ones x) p)
  known_or_not e p under =
      let alone = All-cons (λ f. Fits x (instance_of f)) e [] under.fits (All-nil (λ f. Fits x (instance_of f))) in
      let m = message_of x (instance_of e).message in
      let law = known x (e ∷ []) (key_of_ones x) p alone in
      elim (cases_Bool (binds m p)) [
        | inl passes ↦ inl (law.1 (record { event = e; among = here e []; under = under.key; binds = binding_from m p passes }))
        | inr fails ↦ inr (λ is_known.
            let binding = law.0 is_known in
            let same : e ≡ binding.event = only e binding.event binding.among in
            both_ways (binds m p) fails (binds_from m p (subst (λ (f : Event). Binds (message_of x (instance_of f).message).carried p) (sym same) binding.binds)))
      ]

  -- what is known has a first value
  first_exists : (history : List Event) (p : ℕ) → ((e : Event) → Contains history e → IsUnderOnes x e) → IsKnown x history (key_of_ones x) p → (v : Value) × IsFirstKnown x history (key_of_ones x) p v
  first_exists [] p under (v, knows) = absurd (nowhere knows.event knows.among)
  first_exists (e ∷ history) p under is_known = elim (known_or_not e p (under e (here e history))) [
    | inl (v, knows) ↦ (v, record { before = []; event = e; after = history; split = refl; unknown = λ (w, none). nowhere none.event none.among; knows = knows })
    | inr none ↦
        let later : IsKnown x history (key_of_ones x) p = elim (known_cases x e history (key_of_ones x) p is_known) [ inl now ↦ absurd (none now) | inr rest ↦ rest ] in
        let (v, first) = first_exists history p (λ f among. under f (there e history f among)) later in (
          v,
          record {
            before = e ∷ first.before;
            event = first.event;
            after = first.after;
            split = ap (λ (events : List Event). e ∷ events) first.split;
            unknown = λ before. elim (known_cases x e first.before (key_of_ones x) p before) [ inl now ↦ none now | inr rest ↦ first.unknown rest ];
            knows = first.knows;
          },
        )
  ]

  module _ (kinds : List ℕ) (run : List Event) (is_run : IsRunOfKinds x kinds run) where
    -- each parameter of what can be emitted has a value
    value_exists : (m : ℕ) → CanEmit x (sender_history x run m) m (key_of_ones x) → (c : Carried) → Contains (valued (message_of x m).carried) c → (v : Value) × HasValueOf x run m c v × Unit {0}
    value_exists m can c among = elim (key_or_not x.keys c.param) [
      | inl is_key ↦ (Number 1, record { key = λ is. refl; out = λ other. absurd (other is_key); first = λ other. absurd (other is_key) }, tt)
      | inr other ↦ by_adornment other c.adornment refl
    ]
      where
        by_adornment : (¬ Contains x.keys c.param) → (a : Adornment) → c.adornment ≡ a → (v : Value) × HasValueOf x run m c v × Unit {0}
        by_adornment other In is =
            let sender = (message_of x m).sender in
            let entry = (filtered_member (λ d. has_value d.adornment) (message_of x m).carried c among).0 in
            let adorned : Adorns x m In c.param = subst (λ (a : Adornment). Adorns x m a c.param) is entry in
            let (v, first) = first_exists (sender_history x run m) c.param (λ e member. under_ones x kinds run is_run e (filtered_member (λ f. role_of x f == sender) run e member).0) (can.ins c.param adorned) in
            (v, record { key = λ key. absurd (other key); out = λ none out. absurd (let no_in : In ≡ Out = sym is ∙ out in cc); first = λ none also. first }, tt)
        by_adornment other Out is = (Number (m + 1), record { key = λ key. absurd (other key); out = λ none out. refl; first = λ none also. absurd (let no_out : Out ≡ In = sym is ∙ also in cc) }, tt)
        by_adornment other Nil is = (Number 1, record { key = λ key. refl; out = λ none out. absurd (let no_nil : Nil ≡ Out = sym is ∙ out in cc); first = λ none also. absurd (let no_nil : Nil ≡ In = sym is ∙ also in cc) }, tt)

    -- the instance of what can be emitted
    instance_exists : (m : ℕ) → CanEmit x (sender_history x run m) m (key_of_ones x) → (i : Instance) × IsWitness x run i × (i.message ≡ m)
    instance_exists m can =
        let R = HasValueOf x run m in
        let carried = valued (message_of x m).carried in
        let (values, paired, all) = partners R (λ v. Unit {0}) carried (each_member (λ c. (v : Value) × R c v × Unit {0}) carried (value_exists m can)) in
        (record { message = m; key = key_of_ones x; values = values }, is_witness x run m (key_of_ones x) values can.known refl paired, refl)

    -- the event of a kind that can happen
    event_exists : (kind : ℕ) → MayHappen x run kind → (e : Event) × IsWitnessEvent x run e × (kind_of e ≡ kind)
    event_exists kind may = elim (cases_eq ((kind - 1) % 2) 0) [
      | inl even ↦
          let is : kind ≡ sent ((kind - 1) / 2) = sent_or_received kind may.from_one even in
          let (i, witness, message) = instance_exists ((kind - 1) / 2) (may.sending ((kind - 1) / 2) is) in
          (Emit i, witness, ap sent message ∙ sym is)
      | inr odd ↦
          let is : kind ≡ received ((kind - 1) / 2) = received_or_sent kind may.from_one odd in
          let (i, emission) = may.receiving ((kind - 1) / 2) is in
          (Receive i, emission.among, ap received emission.message ∙ sym is)
    ]
      where
        sent_or_received : (k : ℕ) → 0 < k → (k - 1) % 2 ≡ 0 → k ≡ sent ((k - 1) / 2)
        sent_or_received k from_one even = omega arith

        received_or_sent : (k : ℕ) → 0 < k → ((k - 1) % 2 ≡ 0 → ⊥) → k ≡ received ((k - 1) / 2)
        received_or_sent k from_one odd = let rest : (k - 1) % 2 ≡ 1 = omega arith in omega arith

  -- the first kinds of an assignment have a run
  run_of_first : HistoryIsRun → (vars : Variables) (v : ℕ → Bool) (kinds : List ℕ) → AreVariablesOf x vars → SatisfiesAll v (shared_clauses x vars) → AreOrdered vars v kinds → (n : ℕ) → n ≤ length kinds → (run : List Event) × IsRunOfKinds x (take n kinds) run
  run_of_first histories vars v kinds are satisfied ordered zero few = ([], run_none x)
  run_of_first histories vars v kinds are satisfied ordered (suc n) few =
      let (run, is_run) = run_of_first histories vars v kinds are satisfied ordered n (omega arith) in
      let kind = get_or kinds n 0 in
      let may = may_happen known histories x vars v kinds are satisfied ordered n kind (slice_get-get_or kinds n 0 (omega arith)) run is_run in
      let (e, witness, of_kind) = event_exists (take n kinds) run is_run kind may in (
        run ++ e ∷ [],
        subst (λ (ks : List ℕ). IsRunOfKinds x ks (run ++ e ∷ [])) (sym (ap (λ k. take k kinds) (sym (add-one n)) ∙ take_more kinds n 0 (omega arith)))
            (run_more x (take n kinds) run kind e is_run witness of_kind),
      )

  -- so the assignment has a run
  pub run_exists : HistoryIsRun → (vars : Variables) (v : ℕ → Bool) → AreVariablesOf x vars → SatisfiesAll v (shared_clauses x vars) → (run : List Event) × IsRunOfAssignment x vars v run
  run_exists histories vars v are satisfied =
      let (kinds, ordered) = kinds_exist vars v (families x vars v satisfied).order in
      let (run, is_run) = run_of_first histories vars v kinds are satisfied ordered (length kinds) (omega arith) in
      (run, record { kinds = kinds; ordered = ordered; run_of = subst (λ (ks : List ℕ). IsRunOfKinds x ks run) (take_all (length kinds) kinds (omega arith)) is_run })
