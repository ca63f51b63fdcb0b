-- In a legal run what is received was sent before.
use Rattle.std.proofs.Common.{◌≡◌, ◌⊎◌, inl, inr, ℕ, ◌<◌, Bool, true, List, [], ◌∷◌, take, arith}
use Rattle.std.specs.Prelude.{◌==◌}
use Rattle.std.proofs.lemmas.Bool.{and_from, and_parts, cases_Bool, eqb-true, eq-eqb}
use Rattle.list_base.proofs.Membership.{early_index}
use Rattle.bspl_types.specs.declared.event.Event.{Event}
use Rattle.bspl_types.specs.declared.event.Event.TheVariants.{Emit, Receive}
use Rattle.bspl_types.specs.declared.expanded.Expanded.{Expanded}
use Rattle.bspl_types.specs.declared.value.Value.{Value}
use Rattle.bspl_types.specs.Value.{equal_values}
use Rattle.clause_core.specs.Clause.{Satisfies, SatisfiesAll}
use Rattle.clause_core.specs.Literal.{MakesTrue, negated}
use Rattle.clause_encoding.specs.declared.variables.Variables.{Variables}
use Rattle.clause_encoding.specs.Families.{delivery_clauses}
use Rattle.clause_encoding.specs.Variables.{IsKind, message_numbers, occurs, received, sent, stands_before}
use Rattle.enactment_model.specs.Legal.{EachMayFollow, IsLegalRun, MayFollow}
use Rattle.enactment_model.specs.Laws.{LegalByPositions}
use Rattle.first_occurrences.specs.Occurrence.{comes_first, first_position, is_occurring, is_of_kind}
use Rattle.first_occurrences.specs.Report.{AreVariablesOf, Reports}
use Rattle.first_occurrences.proofs.BeforeLemmas.{before_is_true, first_from_order, occurs_is_false}
use Rattle.first_occurrences.proofs.KindLemmas.{any_of_two, received_is_kind, sent_is_kind}
use Rattle.first_occurrences.proofs.ListedLemmas.{each_mapped}
use Rattle.first_occurrences.proofs.PositionLemmas.{first_at_most, first_event}

-- an event that may follow, of the kind of a reception, has the emission before it
sent_earlier : (x : Expanded) (run : List Event) (key : List Value) (m position : ℕ) (e : Event) → MayFollow x (take position run) e → is_of_kind key (received m) e ≡ true → first_position run key (sent m) < position
sent_earlier x run key m position (Emit i) follows of_kind =
    let same = eqb-true (sent i.message) (received m) (and_parts (equal_values i.key key) (sent i.message == received m) of_kind).1 in
    absurd (omega (arith, same))
sent_earlier x run key m position (Receive i) follows of_kind =
    let (own, kind) = and_parts (equal_values i.key key) (received i.message == received m) of_kind in
    let message : received i.message ≡ received m = eqb-true (received i.message) (received m) kind in
    let (index, before, at) = early_index run position (Emit i) follows in
    let is_sent = and_from (equal_values i.key key) (sent i.message == sent m) own (eq-eqb (sent i.message) (sent m) (omega (arith, message))) in
    let no_later = first_at_most run key (sent m) index (Emit i) at is_sent in
    omega (arith, no_later, before)

-- so the emission comes first
sent_first : (x : Expanded) (run : List Event) (key : List Value) (m : ℕ) → EachMayFollow x run → is_occurring run key (received m) ≡ true → comes_first run key (sent m) (received m) ≡ true
sent_first x run key m each occurring =
    let first = first_event run key (received m) occurring in
    let position = first_position run key (received m) in
    first_from_order run key (sent m) (received m)
    (inl (sent_earlier x run key m position first.event (each position first.event first.at) first.of_kind))

-- a message that is received is sent before
delivered : (x : Expanded) (vars : Variables) (run : List Event) (key : List Value) (v : ℕ → Bool) (m : ℕ) → EachMayFollow x run → Reports vars run key v → IsKind vars (sent m) → IsKind vars (received m) → MakesTrue v (negated (occurs (received m))) ⊎ MakesTrue v (stands_before vars (sent m) (received m))
delivered x vars run key v m each reports kind_sent kind_received =
    elim (cases_Bool (is_occurring run key (received m))) [
      | inr never ↦ inl ((occurs_is_false vars run key v (received m) reports kind_received).1 never)
      | inl occurring ↦ inr ((before_is_true vars run key v (sent m) (received m) reports kind_sent kind_received (omega arith)).1 (sent_first x run key m each occurring))
    ]

-- the clauses of delivery
pub satisfies_delivery : LegalByPositions → (x : Expanded) (vars : Variables) (run : List Event) (key : List Value) (v : ℕ → Bool) → AreVariablesOf x vars → IsLegalRun x run → Reports vars run key v → SatisfiesAll v (delivery_clauses x vars)
satisfies_delivery by_positions x vars run key v are is_legal reports =
    each_mapped (Satisfies v) (λ m. negated (occurs (received m)) ∷ stands_before vars (sent m) (received m) ∷ []) (message_numbers x)
    (λ m among. any_of_two (MakesTrue v) (negated (occurs (received m))) (stands_before vars (sent m) (received m))
    (delivered x vars run key v m ((by_positions x run).0 is_legal.legal) reports (sent_is_kind x vars m are among) (received_is_kind x vars m are among)))
