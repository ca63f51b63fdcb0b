-- The run of a model of the clauses of rest is quiet, and leaves a public parameter unbound.
use Rattle.std.proofs.Common.{◌≡◌, ◌≢◌, ◌⊎◌, inl, inr, ℕ, ◌<◌, Bool, true, not, List, length, Some, slice_get, refl, sym, ap, ◌∙◌, subst, arith, Contains}
use Rattle.std.specs.Prelude.{◌==◌}
use Rattle.std.specs.List.{filter}
use Rattle.std.proofs.lemmas.Bool.{cases_order}
use Rattle.std.proofs.lemmas.Option.{get_or_from_slice_get, same_Some, slice_get_within}
use Rattle.list_base.proofs.Filtered.{filtered_member, kept_member}
use Rattle.list_base.proofs.Membership.{early_index, index_of, member_at}
use Rattle.bspl_types.specs.declared.event.Event.{Event}
use Rattle.bspl_types.specs.declared.event.Event.TheVariants.{Emit, Receive}
use Rattle.bspl_types.specs.declared.event.Instance.{Instance}
use Rattle.bspl_types.specs.declared.expanded.Expanded.{Expanded}
use Rattle.bspl_types.specs.declared.protocol.Adornment.{Adornment}
use Rattle.bspl_types.specs.declared.protocol.Adornment.TheVariants.{In, Out, Nil}
use Rattle.bspl_types.specs.declared.protocol.Carried.{Carried}
use Rattle.bspl_types.specs.Expansion.{Adorns, message_of}
use Rattle.bspl_types.specs.History.{history_of, instance_of, IsRun, role_of, sender_history}
use Rattle.bspl_types.specs.Knowledge.{CanEmit, IsKnown}
use Rattle.clause_core.specs.Clause.{Satisfies, SatisfiesAll}
use Rattle.clause_encoding.specs.Carriers.{carriers, fresh_parameters, is_in, sender_carriers}
use Rattle.clause_encoding.specs.Families.{shared_clauses}
use Rattle.clause_encoding.specs.Formula.{liveness_clauses, liveness_variables}
use Rattle.clause_encoding.specs.Rest.{rest_clauses}
use Rattle.clause_encoding.specs.Variables.{IsKind, received, sent}
use Rattle.enactment_model.specs.Laws.{HistoryIsRun, KnownExactlyIfSomeEventBinds}
use Rattle.enactment_model.specs.Liveness.{Bound, IsEmitted, Quiet}
use Rattle.first_occurrences.specs.Occurrence.{kind_of}
use Rattle.first_occurrences.specs.Report.{AreVariablesOf}
use Rattle.witness_replay.specs.Refuting.{RestsUnbound}
use Rattle.witness_replay.specs.Witness.{IsRunOfAssignment, key_of_ones}
use Rattle.witness_replay.proofs.CarrierLemmas.{binds_from, carrier_event, carrier_from, carrier_kind, carrier_member, IsCarrier}
use Rattle.witness_replay.proofs.FamilyLemmas.{all_right}
use Rattle.witness_replay.proofs.HappenLemmas.{other_kind}
use Rattle.witness_replay.proofs.ListedLemmas.{mapped_from}
use Rattle.witness_replay.proofs.RestFamilyLemmas.{arrives, exhausted, IsUnsent, rest_families, SatisfiesRest, some_unsent}
use Rattle.witness_replay.proofs.RunLemmas.{event_of, kind_among, kind_at, run_fits, under_ones}

-- the variables of the liveness formula are a formula's
pub are_liveness_variables : (x : Expanded) → AreVariablesOf x (liveness_variables x)
are_liveness_variables x = record { kinds = refl; occurrences_first = omega arith }

-- a fresh parameter is adorned `out` or `nil`
fresh_from : (x : Expanded) (m p : ℕ) → Contains (fresh_parameters (message_of x m)) p → Adorns x m Out p ⊎ Adorns x m Nil p
fresh_from x m p listed =
    let (c, member, same) = mapped_from (λ (d : Carried). d.param) (filter (λ d. not (is_in d.adornment)) (message_of x m).carried) p listed in
    let (among, passes) = filtered_member (λ (d : Carried). not (is_in d.adornment)) (message_of x m).carried c member in
    subst (λ (q : ℕ). Adorns x m Out q ⊎ Adorns x m Nil q) same (by_adornment c.param c.adornment passes among)
  where
    by_adornment : (q : ℕ) (a : Adornment) → not (is_in a) ≡ true → Adorns x m a q → Adorns x m Out q ⊎ Adorns x m Nil q
    by_adornment q In passes among = absurd (cc)
    by_adornment q Out passes among = inl among
    by_adornment q Nil passes among = inr among

module _ (x : Expanded) (v : ℕ → Bool) (run : List Event) (is_run : IsRunOfAssignment x (liveness_variables x) v run) where
  -- the kind of an event of the run occurs
  occurs_in : (e : Event) → Contains run e → v (kind_of e) ≡ true
  occurs_in e among = ((is_run.ordered.occurring (kind_of e)).0 (kind_among x is_run.kinds run is_run.run_of e among)).1

  -- and a kind that occurs has an event
  has_event : (kind : ℕ) → IsKind (liveness_variables x) kind → v kind ≡ true → (e : Event) × Contains run e × (kind_of e ≡ kind)
  has_event kind is_kind occurring = event_of x is_run.kinds run is_run.run_of kind ((is_run.ordered.occurring kind).1 (is_kind, occurring))

  -- two positions have two kinds
  kinds_differ : (j k : ℕ) (e f : Event) → j < k → slice_get run j ≡ Some e → slice_get run k ≡ Some f → kind_of e ≢ kind_of f
  kinds_differ j k e f less at_j at_k same =
      let kinds = is_run.kinds in
      let kind_j = kind_at x kinds run is_run.run_of j e at_j in
      let kind_k = kind_at x kinds run is_run.run_of k f at_k in
      let pair = is_run.ordered.ordered j k (kind_of e) less (slice_get_within kinds k (kind_of f) kind_k) in
      pair.0 (get_or_from_slice_get kinds j (kind_of e) (kind_of e) kind_j ∙ same ∙ sym (get_or_from_slice_get kinds k (kind_of f) (kind_of e) kind_k))

  -- so a kind has one event
  one_event : (e f : Event) → Contains run e → Contains run f → kind_of e ≡ kind_of f → e ≡ f
  one_event e f one other same =
      let (j, at_j) = index_of run e one in
      let (k, at_k) = index_of run f other in
      elim (cases_order j k) [
        | inl equal ↦ same_Some e f (sym at_j ∙ ap (slice_get run) equal ∙ at_k)
        | inr (inl less) ↦ absurd (kinds_differ j k e f less at_j at_k same)
        | inr (inr more) ↦ absurd (kinds_differ k j f e more at_k at_j (sym same))
      ]

  -- what is received was emitted
  was_emitted : (i : Instance) → Contains run (Receive i) → Contains run (Emit i)
  was_emitted i among =
      let (position, at) = index_of run (Receive i) among in
      let (earlier, less, emitted) = early_index run position (Emit i) (is_run.run_of.each position (Receive i) at) in
      member_at run earlier (Emit i) emitted

  -- so the message of each event is sent
  message_sent : (e : Event) → Contains run e → v (sent (instance_of e).message) ≡ true
  message_sent (Emit i) among = occurs_in (Emit i) among
  message_sent (Receive i) among = occurs_in (Emit i) (was_emitted i among)

  -- and is one of the protocol
  message_known : (e : Event) → Contains run e → (instance_of e).message < length x.messages
  message_known e among = (under_ones x is_run.kinds run is_run.run_of e among).fits.known

  -- a reception of a message is of the instance that is emitted
  reception_of : (i : Instance) (e : Event) → Contains run (Emit i) → Contains run e → kind_of e ≡ received i.message → Contains run (Receive i)
  reception_of i (Emit j) emitted among of_kind = absurd (omega arith)
  reception_of i (Receive j) emitted among of_kind =
      let both : Emit j ≡ Emit i = one_event (Emit j) (Emit i) (was_emitted j among) emitted (omega arith) in
      let same : j ≡ i = cc in
      subst (λ (k : Instance). Contains run (Receive k)) same among

  -- an event of the emission of a message emits it under the key of ones
  emission_of : (m : ℕ) (e : Event) → Contains run e → kind_of e ≡ sent m → IsEmitted run (key_of_ones x) m
  emission_of m (Emit i) among of_kind = record { instance = i; emitted = among; under = (under_ones x is_run.kinds run is_run.run_of (Emit i) among).key; message_is = omega arith }
  emission_of m (Receive i) among of_kind = absurd (omega arith)

  module _ (satisfied : SatisfiesRest x v) where
    -- what is emitted is received
    is_received : (i : Instance) → Contains run (Emit i) → Contains run (Receive i)
    is_received i emitted =
        let known = message_known (Emit i) emitted in
        let is_kind : IsKind (liveness_variables x) (received i.message) = record { from_one = omega arith; up_to = omega arith } in
        let (e, among, of_kind) = has_event (received i.message) is_kind (arrives x v satisfied i.message known (occurs_in (Emit i) emitted)) in
        reception_of i e emitted among of_kind

    -- what is not emitted is not sent
    not_sent : (m : ℕ) → m < length x.messages → (IsEmitted run (key_of_ones x) m → ⊥) → v (sent m) ≡ true → ⊥
    not_sent m known unemitted sending =
        let is_kind : IsKind (liveness_variables x) (sent m) = record { from_one = omega arith; up_to = omega arith } in
        let (e, among, of_kind) = has_event (sent m) is_kind sending in
        unemitted (emission_of m e among of_kind)

    module _ (known : KnownExactlyIfSomeEventBinds) (histories : HistoryIsRun) where
      -- what a role did is a run
      role_run : (role : ℕ) → IsRun x (history_of x role run)
      role_run role = histories x run role (run_fits x is_run.kinds run is_run.run_of)

      -- what the sender knows is made known there by a kind that occurs
      known_by : (m p : ℕ) → (v (sent m) ≡ true → ⊥) → IsKnown x (sender_history x run m) (key_of_ones x) p → (kind : ℕ) × Contains (sender_carriers x m p) kind × (v kind ≡ true)
      known_by m p unsent is_known =
          let sender = (message_of x m).sender in
          let binding = (known x (sender_history x run m) (key_of_ones x) p (role_run sender)).0 is_known in
          let e = binding.event in
          let (among, role) = filtered_member (λ f. role_of x f == sender) run e binding.among in
          let occurring = occurs_in e among in
          let carrier = carrier_member x sender p e (message_known e among) role binding.binds in (
            kind_of e,
            kept_member (λ k. not (k == sent m)) (carriers x sender p) (kind_of e) (other_kind (kind_of e) m (λ same. unsent (subst (λ k. v k ≡ true) same occurring))) carrier,
            occurring,
          )

      -- and a kind that occurs makes it known there
      makes_known : (m p kind : ℕ) → Contains (sender_carriers x m p) kind → v kind ≡ true → IsKnown x (sender_history x run m) (key_of_ones x) p
      makes_known m p kind listed occurring =
          let sender = (message_of x m).sender in
          let (among, passes) = filtered_member (λ k. not (k == sent m)) (carriers x sender p) kind listed in
          let carrier = carrier_from x sender p kind among in
          let (e, in_run, of_kind) = has_event kind (carrier_kind x (liveness_variables x) sender p kind (are_liveness_variables x) carrier) occurring in
          let (role, binds) = carrier_event x sender p e (subst (IsCarrier x sender p) (sym of_kind) carrier) in
          (known x (sender_history x run m) (key_of_ones x) p (role_run sender)).1
          (record { event = e; among = kept_member (λ f. role_of x f == sender) run e role in_run; under = (under_ones x is_run.kinds run is_run.run_of e in_run).key; binds = binds })

      -- a message that is not emitted cannot be
      cannot_emit : (m : ℕ) → (IsEmitted run (key_of_ones x) m → ⊥) → CanEmit x (sender_history x run m) m (key_of_ones x) → ⊥
      cannot_emit m unemitted can =
          let unsent = not_sent m can.known unemitted in
          elim (exhausted x v satisfied m can.known unsent) [
            | inl lacks ↦
                let (kind, carrier, occurring) = known_by m lacks.param unsent (can.ins lacks.param lacks.adorned) in
                lacks.unknown kind carrier occurring
            | inr blocked ↦
                let is_known = makes_known m blocked.param blocked.kind blocked.carrier blocked.occurring in
                elim (fresh_from x m blocked.param blocked.fresh) [
                  | inl out ↦ can.outs blocked.param out is_known
                  | inr nil ↦ can.nils blocked.param nil is_known
                ]
          ]

      -- so the run is quiet
      quiet : Quiet x run (key_of_ones x)
      quiet = record { received = λ i ones emitted. is_received i emitted; exhausted = cannot_emit }

      -- a parameter that is in no message that is sent is not bound
      not_bound : (found : IsUnsent x v) → Bound x run (key_of_ones x) found.param → ⊥
      not_bound found bound =
          let binding = (known x (history_of x bound.role run) (key_of_ones x) found.param (role_run bound.role)).0 bound.known in
          let e = binding.event in
          let m = (instance_of e).message in
          let among = (filtered_member (λ f. role_of x f == bound.role) run e binding.among).0 in
          found.unsent m (message_known e among) (binds_from (message_of x m) found.param binding.binds) (message_sent e among)

      -- so it leaves a public parameter unbound
      rests_unbound : RestsUnbound x run
      rests_unbound =
          let found = some_unsent x v satisfied in
          record { quiet = quiet; param = found.param; public = found.public; unbound = not_bound found }

-- the run of an assignment that satisfies the liveness clauses is quiet in this way
pub model_rests_unbound : KnownExactlyIfSomeEventBinds → HistoryIsRun → (x : Expanded) (v : ℕ → Bool) (run : List Event) → IsRunOfAssignment x (liveness_variables x) v run → SatisfiesAll v (liveness_clauses x) → RestsUnbound x run
model_rests_unbound known histories x v run is_run satisfied =
    let rest = rest_families x v (all_right (Satisfies v) (shared_clauses x (liveness_variables x)) (rest_clauses x) satisfied) in
    rests_unbound x v run is_run rest known histories
