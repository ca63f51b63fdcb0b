-- What a sender lacks is made known to it by no kind that occurs, and what is unbound is in no message
-- that is sent.
use Rattle.std.proofs.Common.{◌≡◌, ℕ, Bool, true, false, List, [], ◌∷◌, not, sym, ap, ◌∙◌, Contains}
use Rattle.std.specs.Prelude.{◌==◌, ◌&&◌}
use Rattle.std.specs.List.{filter}
use Rattle.std.proofs.lemmas.Bool.{not-true}
use Rattle.list_base.proofs.Filtered.{filtered_member}
use Rattle.bspl_types.specs.declared.event.Event.{Event}
use Rattle.bspl_types.specs.declared.expanded.Expanded.{Expanded}
use Rattle.bspl_types.specs.declared.value.Value.{Value}
use Rattle.bspl_types.specs.Expansion.{message_of}
use Rattle.clause_core.specs.Clause.{Satisfies, SatisfiesAll}
use Rattle.clause_core.specs.Literal.{negated, positive}
use Rattle.clause_encoding.specs.declared.wants.Want.{Want}
use Rattle.clause_encoding.specs.Carriers.{binds, carriers, sender_carriers}
use Rattle.clause_encoding.specs.Formula.{liveness_variables}
use Rattle.clause_encoding.specs.Rest.{unbound_clauses, unbound_clauses_of, unbound_variables, want_clauses, want_clauses_of, want_variables}
use Rattle.clause_encoding.specs.Variables.{IsKind, message_numbers, occurs, sent}
use Rattle.first_occurrences.specs.Lacking.{SaysWhatIsLacking, is_bound, is_supplied}
use Rattle.first_occurrences.specs.Occurrence.{is_occurring}
use Rattle.first_occurrences.specs.Report.{Reports}
use Rattle.first_occurrences.proofs.CarrierLemmas.{carrier_from, carrier_kind}
use Rattle.first_occurrences.proofs.ExhaustionLemmas.{variables_of}
use Rattle.first_occurrences.proofs.KindLemmas.{sent_is_kind}
use Rattle.first_occurrences.proofs.ListedLemmas.{each_joined, each_mapped, fails_by}
use Rattle.first_occurrences.proofs.SatisfiedLemmas.{satisfied_first, satisfied_if}

-- the clause of a variable and a kind that does not occur if the variable is true
absent : (x : Expanded) (run : List Event) (key : List Value) (v : ℕ → Bool) (variable kind : ℕ) → Reports (liveness_variables x) run key v → IsKind (liveness_variables x) kind → (v variable ≡ true → is_occurring run key kind ≡ false) → Satisfies v (negated (positive variable) ∷ negated (occurs kind) ∷ [])
absent x run key v variable kind reports is_kind never =
    satisfied_if v variable (negated (occurs kind) ∷ []) (λ holds. satisfied_first v (negated (occurs kind)) [] (reports.occurring kind is_kind ∙ never holds))

-- the clauses of a parameter that a sender may lack
lacked : (x : Expanded) (run : List Event) (key : List Value) (v : ℕ → Bool) → Reports (liveness_variables x) run key v → SaysWhatIsLacking x run key v → (pair : ℕ × Want) → Contains (want_variables x) pair → SatisfiesAll v (want_clauses_of x pair)
lacked x run key v reports says (variable, want) among =
    let sender = (message_of x want.message).sender in
    let supply = sender_carriers x want.message want.param in
    each_mapped (Satisfies v) (λ kind. negated (positive variable) ∷ negated (occurs kind) ∷ []) supply (λ kind supplies.
    let (carrier, other) = filtered_member (λ k. not (k == sent want.message)) (carriers x sender want.param) kind supplies in
    absent x run key v variable kind reports (carrier_kind x (liveness_variables x) sender want.param kind (variables_of x) (carrier_from x sender want.param kind carrier))
    (λ holds. fails_by (is_occurring run key) supply kind (not-true (is_supplied x run key want) (sym (says.lacking variable want among) ∙ holds)) supplies))

-- the clauses of all of them
pub wants_satisfied : (x : Expanded) (run : List Event) (key : List Value) (v : ℕ → Bool) → Reports (liveness_variables x) run key v → SaysWhatIsLacking x run key v → SatisfiesAll v (want_clauses x)
wants_satisfied x run key v reports says = each_joined (Satisfies v) (want_clauses_of x) (want_variables x) (lacked x run key v reports says)

-- the clauses of a parameter that may be unbound
not_bound : (x : Expanded) (run : List Event) (key : List Value) (v : ℕ → Bool) → Reports (liveness_variables x) run key v → SaysWhatIsLacking x run key v → (pair : ℕ × ℕ) → Contains (unbound_variables x) pair → SatisfiesAll v (unbound_clauses_of x pair)
not_bound x run key v reports says (variable, p) among =
    let has = λ (m : ℕ). binds (message_of x m) p in
    each_mapped (Satisfies v) (λ m. negated (positive variable) ∷ negated (occurs (sent m)) ∷ []) (filter has (message_numbers x)) (λ m listed.
    let (number, binds_it) = filtered_member has (message_numbers x) m listed in
    absent x run key v variable (sent m) reports (sent_is_kind x (liveness_variables x) m (variables_of x) number)
    (λ holds.
    let none = not-true (is_bound x run key p) (sym (says.unbound variable p among) ∙ holds) in
    ap (λ b. b && is_occurring run key (sent m)) (sym binds_it) ∙ fails_by (λ n. has n && is_occurring run key (sent n)) (message_numbers x) m none number))

-- the clauses of all of them
pub unbound_satisfied : (x : Expanded) (run : List Event) (key : List Value) (v : ℕ → Bool) → Reports (liveness_variables x) run key v → SaysWhatIsLacking x run key v → SatisfiesAll v (unbound_clauses x)
unbound_satisfied x run key v reports says = each_joined (Satisfies v) (unbound_clauses_of x) (unbound_variables x) (not_bound x run key v reports says)
