-- In a run that is quiet at a key each message is sent and received there, or its sender lacks a
-- parameter or knows one that it shall not know.
use Rattle.std.proofs.Common.{◌≡◌, ℕ, ◌+◌, Bool, true, false, List, [], ◌∷◌, ◌++◌, inl, inr, length, not, refl, sym, ap, ◌∙◌, subst, arith, Contains}
use Rattle.std.specs.Prelude.{◌==◌}
use Rattle.std.specs.List.{filter}
use Rattle.std.proofs.lemmas.Bool.{both_ways, cases_Bool, eq-eqb, eqb-true, not-false}
use Rattle.std.proofs.lemmas.List.{map-append}
use Rattle.std.proofs.lemmas.List.Elements.{Contains-append_left, Contains-append_right}
use Rattle.list_base.proofs.Filtered.{filtered_member, kept_member}
use Rattle.list_base.proofs.Members.{here, there}
use Rattle.list_base.proofs.Membership.{member_at}
use Rattle.bspl_types.specs.declared.event.Event.{Event}
use Rattle.bspl_types.specs.declared.event.Event.TheVariants.{Emit, Receive}
use Rattle.bspl_types.specs.declared.expanded.Expanded.{Expanded}
use Rattle.bspl_types.specs.declared.protocol.Adornment.TheVariants.{Out, Nil}
use Rattle.bspl_types.specs.declared.value.Value.{Value}
use Rattle.bspl_types.specs.Expansion.{message_of}
use Rattle.bspl_types.specs.History.{history_of, IsRun}
use Rattle.bspl_types.specs.Knowledge.{CanEmit, IsKnown}
use Rattle.bspl_types.specs.Value.{EqualValuesAreOne}
use Rattle.clause_core.specs.Clause.{Satisfies}
use Rattle.clause_core.specs.Literal.{negated, positive}
use Rattle.clause_encoding.specs.declared.wants.Want.{Want}
use Rattle.clause_encoding.specs.Carriers.{carriers, fresh_parameters, in_parameters, sender_carriers}
use Rattle.clause_encoding.specs.Formula.{liveness_variables}
use Rattle.clause_encoding.specs.Rest.{blockers, exhaustion_clause, public_values, want_variables, wanted_by, wants_by, wants_of}
use Rattle.clause_encoding.specs.Variables.{kind_count, message_numbers, occurs, received, sent}
use Rattle.enactment_model.specs.Laws.{HistoryIsRun, KnownExactlyIfSomeEventBinds}
use Rattle.enactment_model.specs.Liveness.{IsEmitted, Quiet}
use Rattle.first_occurrences.specs.Lacking.{SaysWhatIsLacking, is_supplied}
use Rattle.first_occurrences.specs.Occurrence.{first_position, is_occurring, is_of_kind}
use Rattle.first_occurrences.specs.Report.{AreVariablesOf, Reports}
use Rattle.first_occurrences.proofs.CarrierLemmas.{carrier_from, carrier_kind}
use Rattle.first_occurrences.proofs.EmissionLemmas.{emission_from}
use Rattle.first_occurrences.proofs.KindLemmas.{received_is_kind, sent_is_kind}
use Rattle.first_occurrences.proofs.KnowledgeLemmas.{known_if_occurs, made_known}
use Rattle.first_occurrences.proofs.ListedLemmas.{joined_member, mapped_member, numbered_member, passed, range_bound}
use Rattle.first_occurrences.proofs.OccurringLemmas.{event_occurs, key_of_kind, own_kind_of}
use Rattle.first_occurrences.proofs.ParameterLemmas.{listed_fresh, listed_in}
use Rattle.first_occurrences.proofs.PositionLemmas.{first_event}
use Rattle.first_occurrences.proofs.SatisfiedLemmas.{satisfied_first, satisfied_if, satisfied_unless}

-- the variables of the liveness formula are such variables
pub variables_of : (x : Expanded) → AreVariablesOf x (liveness_variables x)
variables_of x = record { kinds = refl; occurrences_first = omega arith }

-- a message whose emission occurs is emitted
emitted : EqualValuesAreOne → (run : List Event) (key : List Value) (m : ℕ) → is_occurring run key (sent m) ≡ true → IsEmitted run key m
emitted exact run key m occurs =
    let found = first_event run key (sent m) occurs in
    let emission = emission_from m found.event (own_kind_of key (sent m) found.event found.of_kind) in
    record {
      instance = emission.instance;
      emitted = subst (Contains run) emission.is (member_at run (first_position run key (sent m)) found.event found.at);
      under = key_of_kind exact key (sent m) (Emit emission.instance) (subst (λ (e : Event). is_of_kind key (sent m) e ≡ true) emission.is found.of_kind);
      message_is = emission.message_is;
    }

-- the clause of arrival of a message
pub arrives : EqualValuesAreOne → (x : Expanded) (run : List Event) (key : List Value) (v : ℕ → Bool) → Quiet x run key → Reports (liveness_variables x) run key v → (m : ℕ) → Contains (message_numbers x) m → Satisfies v (negated (occurs (sent m)) ∷ occurs (received m) ∷ [])
arrives exact x run key v quiet reports m number =
    satisfied_if v (sent m) (occurs (received m) ∷ []) (λ holds.
    let vars = liveness_variables x in
    let emission = emitted exact run key m (sym (reports.occurring (sent m) (sent_is_kind x vars m (variables_of x) number)) ∙ holds) in
    let i = emission.instance in
    let there = event_occurs exact run key (Receive i) (quiet.received i emission.under emission.emitted) emission.under in
    satisfied_first v (occurs (received m)) [] (reports.occurring (received m) (received_is_kind x vars m (variables_of x) number) ∙ subst (λ (n : ℕ). is_occurring run key (received n) ≡ true) emission.message_is there))

-- the variables of the clause of exhaustion of a message
abbrev exhausting : Expanded → ℕ → List ℕ
exhausting x m = sent m ∷ wanted_by x m ++ blockers x m

-- all of them are false
abbrev AllFalse : Expanded → ℕ → (ℕ → Bool) → Type 0
AllFalse x m v = (variable : ℕ) → Contains (exhausting x m) variable → v variable ≡ false

-- then the message is not sent
not_sent : EqualValuesAreOne → (x : Expanded) (run : List Event) (key : List Value) (v : ℕ → Bool) (m : ℕ) → Reports (liveness_variables x) run key v → Contains (message_numbers x) m → AllFalse x m v → ¬ IsEmitted run key m
not_sent exact x run key v m reports number none emission =
    let occurs = subst (λ (n : ℕ). is_occurring run key (sent n) ≡ true) emission.message_is (event_occurs exact run key (Emit emission.instance) emission.emitted emission.under) in
    both_ways (v (sent m)) (none (sent m) (here (sent m) (wanted_by x m ++ blockers x m))) (reports.occurring (sent m) (sent_is_kind x (liveness_variables x) m (variables_of x) number) ∙ occurs)

-- each parameter that it adorns `in` is supplied
supplied : (x : Expanded) (run : List Event) (key : List Value) (v : ℕ → Bool) (m p : ℕ) → SaysWhatIsLacking x run key v → Contains (message_numbers x) m → AllFalse x m v → Contains (in_parameters (message_of x m)) p → is_supplied x run key (record { message = m; param = p }) ≡ true
supplied x run key v m p says number none listed =
    let want : ℕ → Want = λ q. record { message = m; param = q } in
    let own = λ (pair : ℕ × Want). pair.1.message == m in
    let (n, numbered) = numbered_member (kind_count x + length (public_values x) + 1) (wants_of x) (want p)
    (joined_member (wants_by x) (message_numbers x) m (want p) number (mapped_member want (in_parameters (message_of x m)) p listed)) in
    let wanted = mapped_member (λ (pair : ℕ × Want). pair.0) (filter own (want_variables x)) (n, want p) (kept_member own (want_variables x) (n, want p) (eq-eqb m m refl) numbered) in
    not-false (is_supplied x run key (want p))
    (sym (says.lacking n (want p) numbered) ∙ none n (there (sent m) (wanted_by x m ++ blockers x m) n (Contains-append_left (wanted_by x m) (blockers x m) n wanted)))

-- so its sender knows it
known_in : EqualValuesAreOne → KnownExactlyIfSomeEventBinds → HistoryIsRun → (x : Expanded) (run : List Event) (key : List Value) (m p : ℕ) → IsRun x run → is_supplied x run key (record { message = m; param = p }) ≡ true → IsKnown x (history_of x (message_of x m).sender run) key p
known_in exact known histories x run key m p is_run is_supplied =
    let sender = (message_of x m).sender in
    let found = passed (is_occurring run key) (sender_carriers x m p) is_supplied in
    let (among, other) = filtered_member (λ kind. not (kind == sent m)) (carriers x sender p) found.item found.among in
    known_if_occurs exact known histories x run key sender p found.item is_run (carrier_from x sender p found.item among) found.passes

-- and it knows none that the message adorns `out` or `nil`
not_known_fresh : EqualValuesAreOne → KnownExactlyIfSomeEventBinds → HistoryIsRun → (x : Expanded) (run : List Event) (key : List Value) (v : ℕ → Bool) (m p : ℕ) → IsRun x run → Reports (liveness_variables x) run key v → AllFalse x m v → Contains (fresh_parameters (message_of x m)) p → ¬ IsKnown x (history_of x (message_of x m).sender run) key p
not_known_fresh exact known histories x run key v m p is_run reports none listed is_known =
    let sender = (message_of x m).sender in
    let made = made_known exact known histories x run key sender p is_run is_known in
    let kind = made.kind in
    let holds = reports.occurring kind (carrier_kind x (liveness_variables x) sender p kind (variables_of x) (carrier_from x sender p kind made.carrier)) ∙ made.occurs in
    let rest = wanted_by x m ++ blockers x m in
    elim (cases_Bool (kind == sent m)) [
      | inl same ↦ both_ways (v kind) (ap v (eqb-true kind (sent m) same) ∙ none (sent m) (here (sent m) rest)) holds
      | inr other ↦
          let blocks = joined_member (sender_carriers x m) (fresh_parameters (message_of x m)) p kind listed (kept_member (λ k. not (k == sent m)) (carriers x sender p) kind (ap not other) made.carrier) in
          both_ways (v kind) (none kind (there (sent m) rest kind (Contains-append_right (wanted_by x m) (blockers x m) kind blocks))) holds
    ]

-- so it could be emitted
can_emit : EqualValuesAreOne → KnownExactlyIfSomeEventBinds → HistoryIsRun → (x : Expanded) (run : List Event) (key : List Value) (v : ℕ → Bool) (m : ℕ) → IsRun x run → Reports (liveness_variables x) run key v → SaysWhatIsLacking x run key v → Contains (message_numbers x) m → AllFalse x m v → CanEmit x (history_of x (message_of x m).sender run) m key
can_emit exact known histories x run key v m is_run reports says number none =
    let fresh = not_known_fresh exact known histories x run key v m in
    record {
      known = range_bound (length x.messages) m number;
      ins = λ p adorned. known_in exact known histories x run key m p is_run (supplied x run key v m p says number none (listed_in x m p adorned));
      outs = λ p adorned. fresh p is_run reports none (listed_fresh x m p Out refl adorned);
      nils = λ p adorned. fresh p is_run reports none (listed_fresh x m p Nil refl adorned);
    }

-- the clause of exhaustion of a message
pub exhausted : EqualValuesAreOne → KnownExactlyIfSomeEventBinds → HistoryIsRun → (x : Expanded) (run : List Event) (key : List Value) (v : ℕ → Bool) → IsRun x run → Quiet x run key → Reports (liveness_variables x) run key v → SaysWhatIsLacking x run key v → (m : ℕ) → Contains (message_numbers x) m → Satisfies v (exhaustion_clause x m)
exhausted exact known histories x run key v is_run quiet reports says m number =
    subst (Satisfies v) (map-append positive (sent m ∷ wanted_by x m) (blockers x m))
    (satisfied_unless v (exhausting x m) (λ none.
    quiet.exhausted m (not_sent exact x run key v m reports number none) (can_emit exact known histories x run key v m is_run reports says number none)))
