-- After the events of the kinds before a kind, its event can happen.
use Rattle.std.proofs.Common.{◌≡◌, ◌≢◌, inl, inr, ℕ, ◌<◌, Bool, true, not, List, length, take, Some, slice_get, get_or, Contains, sym, ap, ◌∙◌, subst, arith}
use Rattle.std.specs.Prelude.{◌==◌}
use Rattle.std.proofs.lemmas.Bool.{both_ways, cases_Bool, cases_order, eqb-true, eq-eqb, not-true}
use Rattle.std.proofs.lemmas.Option.{get_or_from_slice_get, same_Some, slice_get_within}
use Rattle.list_base.proofs.Filtered.{filtered_member, kept_member}
use Rattle.list_base.proofs.Membership.{early_index, early_member, index_of, member_at}
use Rattle.bspl_types.specs.declared.event.Event.{Event}
use Rattle.bspl_types.specs.declared.event.Event.TheVariants.{Emit, Receive}
use Rattle.bspl_types.specs.declared.expanded.Expanded.{Expanded}
use Rattle.bspl_types.specs.declared.protocol.Adornment.TheVariants.{In}
use Rattle.bspl_types.specs.Expansion.{Adorns, message_of}
use Rattle.bspl_types.specs.History.{IsRun, role_of, sender_history}
use Rattle.bspl_types.specs.Knowledge.{CanEmit, IsKnown}
use Rattle.clause_core.specs.Clause.{SatisfiesAll}
use Rattle.clause_encoding.specs.declared.variables.Variables.{Variables}
use Rattle.clause_encoding.specs.Carriers.{carriers, fresh_parameters}
use Rattle.clause_encoding.specs.Families.{shared_clauses}
use Rattle.clause_encoding.specs.Variables.{IsKind, received, sent}
use Rattle.enactment_model.specs.Laws.{HistoryIsRun, KnownExactlyIfSomeEventBinds}
use Rattle.first_occurrences.specs.Occurrence.{kind_of}
use Rattle.first_occurrences.specs.Report.{AreVariablesOf}
use Rattle.witness_replay.specs.Witness.{AreOrdered, IsRunOfKinds, key_of_ones}
use Rattle.witness_replay.specs.inner.Order.{is_before}
use Rattle.witness_replay.specs.inner.Steps.{HasEmission, MayHappen}
use Rattle.witness_replay.proofs.CarrierLemmas.{carrier_event, carrier_from, carrier_kind, carrier_member, IsCarrier}
use Rattle.witness_replay.proofs.FamilyLemmas.{families, fresh_nil, fresh_out, known_before, occurs_too, SatisfiesFamilies, sent_before, unknown_before}
use Rattle.witness_replay.proofs.LiteralLemmas.{not_both_before, opposite_before, passes_if_true}
use Rattle.witness_replay.proofs.RunLemmas.{event_of, kind_among, run_fits, under_ones}

-- an event of the kind of an emission is one of the message
emission_from : (m : ℕ) (before : List Event) (e : Event) → Contains before e → kind_of e ≡ sent m → HasEmission before m
emission_from m before (Emit i) among same = (i, record { message = omega arith; among = among })
emission_from m before (Receive i) among same = absurd (omega arith)

-- a kind other than the emission passes the test
pub other_kind : (kind m : ℕ) → kind ≢ sent m → not (kind == sent m) ≡ true
other_kind kind m other = elim (cases_Bool (kind == sent m)) [ inl same ↦ absurd (other (eqb-true kind (sent m) same)) | inr none ↦ ap not none ]

module _ (x : Expanded) (vars : Variables) (v : ℕ → Bool) (kinds : List ℕ) (are : AreVariablesOf x vars) (satisfied : SatisfiesFamilies x vars v) (ordered : AreOrdered vars v kinds) where
  -- a kind of the list is before each later one
  pub before_at : (j k i kind : ℕ) → j < k → slice_get kinds j ≡ Some i → slice_get kinds k ≡ Some kind → (i ≢ kind) × (is_before vars v i kind ≡ true)
  before_at j k i kind less at_j at_k =
      let pair = ordered.ordered j k kind less (slice_get_within kinds k kind at_k) in
      let first : get_or kinds j kind ≡ i = get_or_from_slice_get kinds j i kind at_j in
      let second : get_or kinds k kind ≡ kind = get_or_from_slice_get kinds k kind kind at_k in
      subst (λ b. (i ≢ b) × (is_before vars v i b ≡ true)) second
      (subst (λ a. (a ≢ get_or kinds k kind) × (is_before vars v a (get_or kinds k kind) ≡ true)) first (pair.0, passes_if_true v _ pair.1))

  module _ (index kind : ℕ) (at : slice_get kinds index ≡ Some kind) where
    -- it is a kind that occurs
    here : IsKind vars kind × (v kind ≡ true)
    here = (ordered.occurring kind).0 (member_at kinds index kind at)

    -- a kind before it in the list stands before it
    earlier_before : (i : ℕ) → Contains (take index kinds) i → (i ≢ kind) × (is_before vars v i kind ≡ true)
    earlier_before i early = let (j, less, at_j) = early_index kinds index i early in before_at j index i kind less at_j at

    -- and a kind that stands before it is before it in the list
    pub before_earlier : (i : ℕ) → IsKind vars i → i ≢ kind → is_before vars v i kind ≡ true → Contains (take index kinds) i
    before_earlier i kind_i apart before =
        let not_before : is_before vars v kind i ≡ not true = opposite_before vars v i kind apart ∙ ap not before in
        let occurs_i = occurs_too x vars v satisfied kind i here.0 kind_i (λ same. apart (sym same)) here.1 not_before in
        let (j, at_j) = index_of kinds i ((ordered.occurring i).1 (kind_i, occurs_i)) in
        elim (cases_order j index) [
          | inl same ↦ absurd (apart (same_Some i kind (sym at_j ∙ ap (slice_get kinds) same ∙ at)))
          | inr (inl less) ↦ early_member kinds j index i at_j less
          | inr (inr more) ↦ absurd (not_both_before vars v i kind apart before (before_at index j kind i more at at_j).1)
        ]

    module _ (run : List Event) (is_run : IsRunOfKinds x (take index kinds) run) (known : KnownExactlyIfSomeEventBinds) (histories : HistoryIsRun) (m : ℕ) where
      -- what the sender did is a run
      sender_run : IsRun x (sender_history x run m)
      sender_run = histories x run (message_of x m).sender (run_fits x (take index kinds) run is_run)

      -- if the kind is the emission of the message, each `in` parameter is known
      ins : kind ≡ sent m → m < length x.messages → (p : ℕ) → Adorns x m In p → IsKnown x (sender_history x run m) (key_of_ones x) p
      ins is within p adorned =
          let sender = (message_of x m).sender in
          let (c, listed, before) = known_before x vars v satisfied m p within adorned (subst (λ k. v k ≡ true) is here.1) in
          let (among, passes) = filtered_member (λ k. not (k == sent m)) (carriers x sender p) c listed in
          let apart : c ≢ kind = λ same. both_ways (c == sent m) (not-true (c == sent m) passes) (eq-eqb c (sent m) (same ∙ is)) in
          let carrier = carrier_from x sender p c among in
          let early = before_earlier c (carrier_kind x vars sender p c are carrier) apart (subst (λ k. is_before vars v c k ≡ true) (sym is) before) in
          let (e, in_run, of_kind) = event_of x (take index kinds) run is_run c early in
          let (role, binds) = carrier_event x sender p e (subst (IsCarrier x sender p) (sym of_kind) carrier) in
          (known x (sender_history x run m) (key_of_ones x) p sender_run).1
          (record { event = e; among = kept_member (λ f. role_of x f == sender) run e role in_run; under = (under_ones x (take index kinds) run is_run e in_run).key; binds = binds })

      -- and no fresh parameter is
      fresh : kind ≡ sent m → m < length x.messages → (p : ℕ) → Contains (fresh_parameters (message_of x m)) p → IsKnown x (sender_history x run m) (key_of_ones x) p → ⊥
      fresh is within p listed is_known =
          let sender = (message_of x m).sender in
          let binding = (known x (sender_history x run m) (key_of_ones x) p sender_run).0 is_known in
          let e = binding.event in
          let (in_run, role) = filtered_member (λ f. role_of x f == sender) run e binding.among in
          let (apart, before) = earlier_before (kind_of e) (kind_among x (take index kinds) run is_run e in_run) in
          let carrier = carrier_member x sender p e (under_ones x (take index kinds) run is_run e in_run).fits.known role binding.binds in
          unknown_before x vars v satisfied m p within listed (subst (λ k. v k ≡ true) is here.1) (kind_of e)
          (kept_member (λ k. not (k == sent m)) (carriers x sender p) (kind_of e) (other_kind (kind_of e) m (λ same. apart (same ∙ sym is))) carrier)
          (subst (λ k. is_before vars v (kind_of e) k ≡ true) is before)

      -- so the sender can emit it
      sending : kind ≡ sent m → CanEmit x (sender_history x run m) m (key_of_ones x)
      sending is =
          let up_to = here.0.up_to in
          let count = are.kinds in
          let within : m < length x.messages = omega arith in
          record {
            known = within;
            ins = ins is within;
            outs = λ p adorned. fresh is within p (fresh_out x m p adorned);
            nils = λ p adorned. fresh is within p (fresh_nil x m p adorned);
          }

      -- if the kind is the reception of the message, an instance of it was emitted
      receiving : kind ≡ received m → HasEmission run m
      receiving is =
          let up_to = here.0.up_to in
          let count = are.kinds in
          let within : m < length x.messages = omega arith in
          let before = sent_before x vars v satisfied m within (subst (λ k. v k ≡ true) is here.1) in
          let kind_sent : IsKind vars (sent m) = record { from_one = omega arith; up_to = omega arith } in
          let early = before_earlier (sent m) kind_sent (λ same. absurd (omega arith)) (subst (λ k. is_before vars v (sent m) k ≡ true) (sym is) before) in
          let (e, in_run, of_kind) = event_of x (take index kinds) run is_run (sent m) early in
          emission_from m run e in_run of_kind

-- the event of the kind can happen
pub may_happen : KnownExactlyIfSomeEventBinds → HistoryIsRun → (x : Expanded) (vars : Variables) (v : ℕ → Bool) (kinds : List ℕ) → AreVariablesOf x vars → SatisfiesAll v (shared_clauses x vars) → AreOrdered vars v kinds → (index kind : ℕ) → slice_get kinds index ≡ Some kind → (run : List Event) → IsRunOfKinds x (take index kinds) run → MayHappen x run kind
may_happen known histories x vars v kinds are satisfied ordered index kind at run is_run =
    let all = families x vars v satisfied in
    let (is_kind, occurs) = (ordered.occurring kind).0 (member_at kinds index kind at) in
    let up_to = is_kind.up_to in
    let count = are.kinds in
    record {
      from_one = is_kind.from_one;
      up_to = omega arith;
      sending = sending x vars v kinds are all ordered index kind at run is_run known histories;
      receiving = receiving x vars v kinds are all ordered index kind at run is_run known histories;
    }
