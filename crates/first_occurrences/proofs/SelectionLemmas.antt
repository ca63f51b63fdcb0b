-- A conflict of a legal run is one of two rivals that are both sent, so it satisfies their clauses.
use Rattle.std.proofs.Common.{◌≡◌, ℕ, ◌+◌, Bool, true, List, [], ◌∷◌, map, take, sym, ◌∙◌, Contains}
use Rattle.std.specs.List.{flat_map}
use Rattle.std.proofs.lemmas.Bool.{and_from, and_parts}
use Rattle.std.proofs.lemmas.List.Elements.{All-append, All-cons, All-contains, All-nil, All-take}
use Rattle.list_base.proofs.Membership.{early_member, member_at}
use Rattle.bspl_types.specs.declared.event.Event.{Event}
use Rattle.bspl_types.specs.declared.event.Event.TheVariants.{Emit}
use Rattle.bspl_types.specs.declared.expanded.Expanded.{Expanded}
use Rattle.bspl_types.specs.declared.value.Value.{Value}
use Rattle.bspl_types.specs.History.{instance_of}
use Rattle.bspl_types.specs.Instance.{Fits}
use Rattle.bspl_types.specs.Value.{EqualValuesAreOne}
use Rattle.clause_core.specs.Clause.{Satisfies, SatisfiesAll}
use Rattle.clause_core.specs.Literal.{MakesTrue, negated, positive}
use Rattle.clause_encoding.specs.declared.rivals.Rivals.{Rivals}
use Rattle.clause_encoding.specs.Formula.{safety_variables}
use Rattle.clause_encoding.specs.Rivals.{rivals_of, selected_is_sent, selectors}
use Rattle.clause_encoding.specs.Variables.{kind_count, occurs, sent}
use Rattle.enactment_model.specs.Laws.{LegalByPositions, SecondEmissionIsNotEnabled}
use Rattle.enactment_model.specs.Legal.{IsLegalRun}
use Rattle.enactment_model.specs.Safety.{Conflict}
use Rattle.first_occurrences.specs.Laws.{RivalsHold, SelectsWhatIsSent}
use Rattle.first_occurrences.specs.Occurrence.{is_occurring}
use Rattle.first_occurrences.specs.Report.{Reports}
use Rattle.first_occurrences.proofs.ListedLemmas.{each_joined, mapped_member, numbered_item, numbered_member, some_member}
use Rattle.first_occurrences.proofs.OccurringLemmas.{event_occurs}
use Rattle.first_occurrences.proofs.RivalLemmas.{BothHave, rival_kinds, two_producers}
use Rattle.first_occurrences.proofs.SatisfiedLemmas.{satisfied_first, satisfied_if}

-- the message is sent under the key
abbrev pub AreSent : List Event → List Value → ℕ → Type 0
AreSent run key m = is_occurring run key (sent m) ≡ true

-- two emissions in conflict are of two messages
two_messages : LegalByPositions → SecondEmissionIsNotEnabled → (x : Expanded) (run : List Event) (key : List Value) (p first second : ℕ) → IsLegalRun x run → (conflict : Conflict x run key p first second) → conflict.first_produces.instance.message ≡ conflict.second_produces.instance.message → ⊥
two_messages by_positions no_second x run key p first second is_legal conflict same =
    let one = conflict.first_produces in
    let other = conflict.second_produces in
    no_second x (take second run) one.instance other.instance p
    (All-take (λ e. Fits x (instance_of e)) second run is_legal.fits)
    (early_member run first second (Emit one.instance) one.emitted conflict.in_order)
    (sym same)
    (other.under ∙ sym one.under)
    one.adorned
    ((by_positions x run).0 is_legal.legal second (Emit other.instance) other.emitted)

-- so they are of two rivals
rivals_in_conflict : EqualValuesAreOne → LegalByPositions → SecondEmissionIsNotEnabled → (x : Expanded) (run : List Event) (key : List Value) (p first second : ℕ) → IsLegalRun x run → Conflict x run key p first second → BothHave (AreSent run key) (rivals_of x)
rivals_in_conflict exact by_positions no_second x run key p first second is_legal conflict =
    let one = conflict.first_produces in
    let other = conflict.second_produces in
    let one_there = member_at run first (Emit one.instance) one.emitted in
    let other_there = member_at run second (Emit other.instance) other.emitted in
    two_producers x (AreSent run key) p one.instance.message other.instance.message
    (two_messages by_positions no_second x run key p first second is_legal conflict)
    (All-contains (λ e. Fits x (instance_of e)) run (Emit one.instance) is_legal.fits one_there).known
    (All-contains (λ e. Fits x (instance_of e)) run (Emit other.instance) is_legal.fits other_there).known
    one.adorned
    other.adorned
    (event_occurs exact run key (Emit one.instance) one_there one.under)
    (event_occurs exact run key (Emit other.instance) other_there other.under)

-- what is selected is sent
selected_sent : (x : Expanded) (run : List Event) (key : List Value) (v : ℕ → Bool) → Reports (safety_variables x) run key v → SelectsWhatIsSent x run key v → (s : ℕ × Rivals) → Contains (selectors x) s → SatisfiesAll v (selected_is_sent s)
selected_sent x run key v reports selects (number, rivals) among =
    let (one, other) = rival_kinds x rivals (numbered_item (kind_count x + 1) (rivals_of x) number rivals among) in
    let both : v number ≡ true → (is_occurring run key (sent rivals.first) ≡ true) × (is_occurring run key (sent rivals.second) ≡ true) = λ chosen. and_parts _ _ (sym (selects number rivals among) ∙ chosen) in
    All-cons (Satisfies v) (negated (positive number) ∷ occurs (sent rivals.first) ∷ []) ((negated (positive number) ∷ occurs (sent rivals.second) ∷ []) ∷ [])
    (satisfied_if v number (occurs (sent rivals.first) ∷ []) (λ chosen. satisfied_first v (occurs (sent rivals.first)) [] (reports.occurring (sent rivals.first) one ∙ (both chosen).0)))
    (All-cons (Satisfies v) (negated (positive number) ∷ occurs (sent rivals.second) ∷ []) []
    (satisfied_if v number (occurs (sent rivals.second) ∷ []) (λ chosen. satisfied_first v (occurs (sent rivals.second)) [] (reports.occurring (sent rivals.second) other ∙ (both chosen).1)))
    (All-nil (Satisfies v)))

-- two rivals that are sent are selected
some_selected : (x : Expanded) (run : List Event) (key : List Value) (v : ℕ → Bool) → SelectsWhatIsSent x run key v → BothHave (AreSent run key) (rivals_of x) → Satisfies v (map (λ s. positive s.0) (selectors x))
some_selected x run key v selects both =
    let (number, among) = numbered_member (kind_count x + 1) (rivals_of x) both.two both.among in
    some_member (MakesTrue v) (map (λ s. positive s.0) (selectors x)) (positive number)
    (mapped_member (λ s. positive s.0) (selectors x) (number, both.two) among)
    (selects number both.two among ∙ and_from _ _ both.first both.second)

-- so the clauses of rival producers are satisfied
pub rivals_satisfied : EqualValuesAreOne → LegalByPositions → SecondEmissionIsNotEnabled → RivalsHold
rivals_satisfied exact by_positions no_second x run key p first second v is_legal conflict reports selects =
    All-append (Satisfies v) (flat_map selected_is_sent (selectors x)) (map (λ s. positive s.0) (selectors x) ∷ [])
    (each_joined (Satisfies v) selected_is_sent (selectors x) (selected_sent x run key v reports selects))
    (All-cons (Satisfies v) (map (λ s. positive s.0) (selectors x)) [] (some_selected x run key v selects (rivals_in_conflict exact by_positions no_second x run key p first second is_legal conflict)) (All-nil (Satisfies v)))
