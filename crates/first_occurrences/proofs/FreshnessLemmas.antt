-- In a legal run no `out` or `nil` parameter of what is first sent was made known to the sender before.
use Rattle.std.proofs.Common.{◌≡◌, ◌≢◌, ℕ, ◌<◌, Bool, true, List, [], ◌∷◌, inl, inr, not, sym, ap, ◌∙◌, subst, arith, Contains}
use Rattle.std.specs.Prelude.{◌==◌, slice_get}
use Rattle.std.specs.List.{flat_map}
use Rattle.std.proofs.lemmas.Bool.{both_ways, cases_Bool, eq-eqb, not-true}
use Rattle.std.proofs.lemmas.Option.{same_Some}
use Rattle.list_base.proofs.Filtered.{filtered_member}
use Rattle.list_base.proofs.Membership.{early_member}
use Rattle.bspl_types.specs.declared.event.Event.{Event}
use Rattle.bspl_types.specs.declared.expanded.Expanded.{Expanded}
use Rattle.bspl_types.specs.declared.value.Value.{Value}
use Rattle.bspl_types.specs.Expansion.{message_of}
use Rattle.bspl_types.specs.History.{history_of}
use Rattle.bspl_types.specs.Knowledge.{IsKnown}
use Rattle.bspl_types.specs.Value.{EqualValuesAreOne}
use Rattle.clause_core.specs.Clause.{Satisfies}
use Rattle.clause_core.specs.Literal.{negated}
use Rattle.clause_encoding.specs.declared.variables.Variables.{Variables}
use Rattle.clause_encoding.specs.Carriers.{carriers, fresh_parameters, sender_carriers}
use Rattle.clause_encoding.specs.Families.{fresh_clauses_of}
use Rattle.clause_encoding.specs.Variables.{message_numbers, occurs, sent, stands_before}
use Rattle.enactment_model.specs.Laws.{HistoryIsRun, KnownExactlyIfSomeEventBinds, LegalByPositions}
use Rattle.enactment_model.specs.Legal.{IsLegalRun}
use Rattle.first_occurrences.specs.Laws.{FreshnessHolds}
use Rattle.first_occurrences.specs.Occurrence.{comes_first, first_position, is_occurring, is_of_kind}
use Rattle.first_occurrences.specs.Report.{AreVariablesOf, Reports}
use Rattle.first_occurrences.proofs.BeforeLemmas.{before_is_false, opposite_first, order_from_first}
use Rattle.first_occurrences.proofs.CarrierLemmas.{IsCarrier, carrier_from, carrier_kind}
use Rattle.first_occurrences.proofs.EmissionLemmas.{can_emit_first, run_before}
use Rattle.first_occurrences.proofs.KindLemmas.{sent_is_kind}
use Rattle.first_occurrences.proofs.KnowledgeLemmas.{known_from_event}
use Rattle.first_occurrences.proofs.ListedLemmas.{each_joined, each_mapped}
use Rattle.first_occurrences.proofs.OccurringLemmas.{key_of_kind, own_kind_of}
use Rattle.first_occurrences.proofs.ParameterLemmas.{adorned_fresh}
use Rattle.first_occurrences.proofs.PositionLemmas.{first_event, position_of_none, position_within}
use Rattle.first_occurrences.proofs.PremiseLemmas.{sender_run}
use Rattle.first_occurrences.proofs.SatisfiedLemmas.{satisfied_first, satisfied_if}

-- two kinds that first occur at one position within the run are one
pub one_position : (run : List Event) (key : List Value) (i j : ℕ) → is_occurring run key i ≡ true → is_occurring run key j ≡ true → first_position run key i ≡ first_position run key j → i ≡ j
one_position run key i j occurs_i occurs_j same =
    let one = first_event run key i occurs_i in
    let other = first_event run key j occurs_j in
    let is : one.event ≡ other.event = same_Some one.event other.event (sym one.at ∙ ap (slice_get run) same ∙ other.at) in
    sym (own_kind_of key i one.event one.of_kind) ∙ own_kind_of key j one.event (subst (λ (e : Event). is_of_kind key j e ≡ true) (sym is) other.of_kind)

-- a kind that comes before one that occurs has the earlier position
earlier_position : (run : List Event) (key : List Value) (i j : ℕ) → i ≢ j → is_occurring run key j ≡ true → comes_first run key i j ≡ true → (is_occurring run key i ≡ true) × (first_position run key i < first_position run key j)
earlier_position run key i j other occurs first =
    let within = position_within run key j occurs in
    let ordered = order_from_first run key i j first in
    elim (cases_Bool (is_occurring run key i)) [
      | inl occurs_i ↦ (occurs_i, elim ordered [ inl less ↦ less | inr (same, less) ↦ absurd (other (one_position run key i j occurs_i occurs same)) ])
      | inr none ↦ let last = position_of_none run key i none in elim ordered [ inl less ↦ absurd (omega arith) | inr (same, less) ↦ absurd (omega arith) ]
    ]

-- if a kind that makes the parameter known comes before the emission, the sender knows it then
known_from_carrier : EqualValuesAreOne → KnownExactlyIfSomeEventBinds → HistoryIsRun → (x : Expanded) (run : List Event) (key : List Value) (m p kind : ℕ) → IsLegalRun x run → IsCarrier x (message_of x m).sender p kind → is_occurring run key kind ≡ true → first_position run key kind < first_position run key (sent m) → IsKnown x (history_of x (message_of x m).sender (run_before run key m)) key p
known_from_carrier exact known histories x run key m p kind is_legal carrier occurs before =
    let sender = (message_of x m).sender in
    let found = first_event run key kind occurs in
    let early = early_member run (first_position run key kind) (first_position run key (sent m)) found.event found.at before in
    known_from_event known x (run_before run key m) key sender p found.event (sender_run histories x run key m is_legal) early
    (key_of_kind exact key kind found.event found.of_kind)
    (subst (IsCarrier x sender p) (sym (own_kind_of key kind found.event found.of_kind)) carrier)

-- but it does not know what is fresh, so no such kind comes before
none_before : EqualValuesAreOne → LegalByPositions → KnownExactlyIfSomeEventBinds → HistoryIsRun → (x : Expanded) (run : List Event) (key : List Value) (m p kind : ℕ) → IsLegalRun x run → is_occurring run key (sent m) ≡ true → Contains (fresh_parameters (message_of x m)) p → kind ≢ sent m → IsCarrier x (message_of x m).sender p kind → comes_first run key kind (sent m) ≡ true → ⊥
none_before exact by_positions known histories x run key m p kind is_legal occurs listed other carrier first =
    let (occurs_kind, before) = earlier_position run key kind (sent m) other occurs first in
    let can = can_emit_first exact by_positions x run key m is_legal occurs in
    let is_known = known_from_carrier exact known histories x run key m p kind is_legal carrier occurs_kind before in
    elim (adorned_fresh x m p listed) [
      | inl adorned ↦ can.outs p adorned is_known
      | inr adorned ↦ can.nils p adorned is_known
    ]

-- the clause of a fresh parameter and such a kind
fresh_satisfied : EqualValuesAreOne → LegalByPositions → KnownExactlyIfSomeEventBinds → HistoryIsRun → (x : Expanded) (vars : Variables) (run : List Event) (key : List Value) (v : ℕ → Bool) → AreVariablesOf x vars → IsLegalRun x run → Reports vars run key v → (m : ℕ) → Contains (message_numbers x) m → (p : ℕ) → Contains (fresh_parameters (message_of x m)) p → (kind : ℕ) → Contains (sender_carriers x m p) kind → Satisfies v (negated (occurs (sent m)) ∷ negated (stands_before vars kind (sent m)) ∷ [])
fresh_satisfied exact by_positions known histories x vars run key v are is_legal reports m number p listed kind among =
    let sender = (message_of x m).sender in
    let (member, passes) = filtered_member (λ k. not (k == sent m)) (carriers x sender p) kind among in
    let other : kind ≢ sent m = λ same. both_ways (kind == sent m) (not-true (kind == sent m) passes) (eq-eqb kind (sent m) same) in
    let carrier = carrier_from x sender p kind member in
    let sent_is = sent_is_kind x vars m are number in
    satisfied_if v (sent m) (negated (stands_before vars kind (sent m)) ∷ []) (λ holds.
    let is_sent = sym (reports.occurring (sent m) sent_is) ∙ holds in
    satisfied_first v (negated (stands_before vars kind (sent m))) []
    ((before_is_false vars run key v kind (sent m) reports (carrier_kind x vars sender p kind are carrier) sent_is other).1
    (opposite_first run key kind (sent m) other ∙ elim (cases_Bool (comes_first run key kind (sent m))) as (λ found. not (comes_first run key kind (sent m)) ≡ true) [
      | inl first ↦ absurd (none_before exact by_positions known histories x run key m p kind is_legal is_sent listed other carrier first)
      | inr none ↦ ap not none
    ])))

-- so the clauses of freshness are satisfied
pub freshness_satisfied : EqualValuesAreOne → LegalByPositions → KnownExactlyIfSomeEventBinds → HistoryIsRun → FreshnessHolds
freshness_satisfied exact by_positions known histories x vars run key v are is_legal reports =
    each_joined (Satisfies v) (λ m. flat_map (fresh_clauses_of x vars m) (fresh_parameters (message_of x m))) (message_numbers x)
    (λ m number. each_joined (Satisfies v) (fresh_clauses_of x vars m) (fresh_parameters (message_of x m))
    (λ p listed. each_mapped (Satisfies v) (λ c. negated (occurs (sent m)) ∷ negated (stands_before vars c (sent m)) ∷ []) (sender_carriers x m p)
    (fresh_satisfied exact by_positions known histories x vars run key v are is_legal reports m number p listed)))
