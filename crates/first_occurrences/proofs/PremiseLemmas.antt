-- In a legal run each `in` parameter of what is first sent was made known to the sender before.
use Rattle.std.proofs.Common.{◌≡◌, ◌≢◌, ℕ, ◌<◌, Bool, true, List, inl, inr, map, sym, ap, ◌∙◌, arith, Contains}
use Rattle.std.specs.Prelude.{◌==◌, not}
use Rattle.std.proofs.lemmas.Bool.{cases_Bool, eqb-true}
use Rattle.std.proofs.lemmas.List.Elements.{All-contains, All-take}
use Rattle.list_base.proofs.Filtered.{filtered_member, kept_member}
use Rattle.list_base.proofs.Membership.{early_index, member_at}
use Rattle.bspl_types.specs.declared.event.Event.{Event}
use Rattle.bspl_types.specs.declared.expanded.Expanded.{Expanded}
use Rattle.bspl_types.specs.declared.value.Value.{Value}
use Rattle.bspl_types.specs.Expansion.{message_of}
use Rattle.bspl_types.specs.History.{history_of, instance_of, IsRun, role_of}
use Rattle.bspl_types.specs.Instance.{Fits}
use Rattle.bspl_types.specs.Value.{EqualValuesAreOne}
use Rattle.clause_core.specs.Clause.{Satisfies}
use Rattle.clause_core.specs.Literal.{MakesTrue}
use Rattle.clause_encoding.specs.declared.variables.Variables.{Variables}
use Rattle.clause_encoding.specs.Carriers.{carriers, in_parameters, sender_carriers}
use Rattle.clause_encoding.specs.Families.{premise_clause}
use Rattle.clause_encoding.specs.Variables.{message_numbers, sent, stands_before}
use Rattle.enactment_model.specs.Binding.{HasBindingEvent}
use Rattle.enactment_model.specs.Laws.{HistoryIsRun, KnownExactlyIfSomeEventBinds, LegalByPositions}
use Rattle.enactment_model.specs.Legal.{IsLegalRun}
use Rattle.first_occurrences.specs.Laws.{PremisesHold}
use Rattle.first_occurrences.specs.Occurrence.{first_position, kind_of}
use Rattle.first_occurrences.specs.Report.{AreVariablesOf, Reports}
use Rattle.first_occurrences.proofs.BeforeLemmas.{before_is_true, first_from_order}
use Rattle.first_occurrences.proofs.CarrierLemmas.{carrier_from, carrier_kind, carrier_member}
use Rattle.first_occurrences.proofs.EmissionLemmas.{can_emit_first, run_before}
use Rattle.first_occurrences.proofs.KindLemmas.{sent_is_kind}
use Rattle.first_occurrences.proofs.ListedLemmas.{each_joined, each_mapped, mapped_member, some_member}
use Rattle.first_occurrences.proofs.OccurringLemmas.{of_own_kind}
use Rattle.first_occurrences.proofs.ParameterLemmas.{adorned_in}
use Rattle.first_occurrences.proofs.PositionLemmas.{first_at_most}
use Rattle.first_occurrences.proofs.SatisfiedLemmas.{satisfied_if}

-- what the sender knew before is a run
pub sender_run : HistoryIsRun → (x : Expanded) (run : List Event) (key : List Value) (m : ℕ) → IsLegalRun x run → IsRun x (history_of x (message_of x m).sender (run_before run key m))
sender_run histories x run key m is_legal =
    histories x (run_before run key m) (message_of x m).sender (All-take (λ e. Fits x (instance_of e)) (first_position run key (sent m)) run is_legal.fits)

-- a kind that makes the parameter known to the sender, and first occurs before the message is sent
pub record KnownBefore (x : Expanded) (run : List Event) (key : List Value) (m p : ℕ) : Type 0 where
  pub kind : ℕ
  pub carrier : Contains (sender_carriers x m p) kind
  pub before : first_position run key kind < first_position run key (sent m)

-- a kind other than the emission passes the test
other_kind : (kind m : ℕ) → kind ≢ sent m → not (kind == sent m) ≡ true
other_kind kind m other = elim (cases_Bool (kind == sent m)) [ inl same ↦ absurd (other (eqb-true kind (sent m) same)) | inr none ↦ ap not none ]

-- what binds the parameter in the sender's history before is an event of such a kind
known_before : EqualValuesAreOne → (x : Expanded) (run : List Event) (key : List Value) (m p : ℕ) → IsLegalRun x run → HasBindingEvent x (history_of x (message_of x m).sender (run_before run key m)) key p → KnownBefore x run key m p
known_before exact x run key m p is_legal binding =
    let e = binding.event in
    let sender = (message_of x m).sender in
    let (among, at) = filtered_member (λ f. role_of x f == sender) (run_before run key m) e binding.among in
    let (position, early, is) = early_index run (first_position run key (sent m)) e among in
    let fits = All-contains (λ f. Fits x (instance_of f)) run e is_legal.fits (member_at run position e is) in
    let no_later = first_at_most run key (kind_of e) position e is (of_own_kind exact key e binding.under) in
    let before : first_position run key (kind_of e) < first_position run key (sent m) = omega arith in
    record {
      kind = kind_of e;
      carrier = kept_member (λ kind. not (kind == sent m)) (carriers x sender p) (kind_of e)
          (other_kind (kind_of e) m (λ same. let equal = ap (first_position run key) same in absurd (omega arith)))
          (carrier_member x sender p e fits.known at binding.binds);
      before = before;
    }

-- the clause of a parameter that is adorned `in`
premise_satisfied : EqualValuesAreOne → LegalByPositions → KnownExactlyIfSomeEventBinds → HistoryIsRun → (x : Expanded) (vars : Variables) (run : List Event) (key : List Value) (v : ℕ → Bool) → AreVariablesOf x vars → IsLegalRun x run → Reports vars run key v → (m : ℕ) → Contains (message_numbers x) m → (p : ℕ) → Contains (in_parameters (message_of x m)) p → Satisfies v (premise_clause x vars m p)
premise_satisfied exact by_positions known histories x vars run key v are is_legal reports m number p listed =
    satisfied_if v (sent m) _ (λ holds.
    let sent_is = sent_is_kind x vars m are number in
    let can = can_emit_first exact by_positions x run key m is_legal (sym (reports.occurring (sent m) sent_is) ∙ holds) in
    let binding = (known x _ key p (sender_run histories x run key m is_legal)).0 (can.ins p (adorned_in x m p listed)) in
    let found = known_before exact x run key m p is_legal binding in
    let (among, other) = filtered_member (λ kind. not (kind == sent m)) (carriers x (message_of x m).sender p) found.kind found.carrier in
    let before = found.before in
    some_member (MakesTrue v) (map (λ c. stands_before vars c (sent m)) (sender_carriers x m p)) (stands_before vars found.kind (sent m))
    (mapped_member (λ c. stands_before vars c (sent m)) (sender_carriers x m p) found.kind found.carrier)
    ((before_is_true vars run key v found.kind (sent m) reports
    (carrier_kind x vars (message_of x m).sender p found.kind are (carrier_from x (message_of x m).sender p found.kind among))
    sent_is
    (λ same. let equal = ap (first_position run key) same in absurd (omega arith))).1
    (first_from_order run key found.kind (sent m) (inl before))))

-- so the clauses of premises are satisfied
pub premises_satisfied : EqualValuesAreOne → LegalByPositions → KnownExactlyIfSomeEventBinds → HistoryIsRun → PremisesHold
premises_satisfied exact by_positions known histories x vars run key v are is_legal reports =
    each_joined (Satisfies v) (λ m. map (premise_clause x vars m) (in_parameters (message_of x m))) (message_numbers x)
    (λ m number. each_mapped (Satisfies v) (premise_clause x vars m) (in_parameters (message_of x m))
    (premise_satisfied exact by_positions known histories x vars run key v are is_legal reports m number))
