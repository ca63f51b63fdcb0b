-- The first emission of a message under a key: in a legal run its sender could emit it then.
use Rattle.std.proofs.Common.{◌≡◌, ℕ, true, List, Some, take, refl, arith, subst}
use Rattle.std.specs.Prelude.{slice_get}
use Rattle.bspl_types.specs.declared.event.Event.{Event}
use Rattle.bspl_types.specs.declared.event.Event.TheVariants.{Emit, Receive}
use Rattle.bspl_types.specs.declared.event.Instance.{Instance}
use Rattle.bspl_types.specs.declared.expanded.Expanded.{Expanded}
use Rattle.bspl_types.specs.declared.value.Value.{Value}
use Rattle.bspl_types.specs.Expansion.{message_of}
use Rattle.bspl_types.specs.History.{history_of}
use Rattle.bspl_types.specs.Knowledge.{CanEmit}
use Rattle.bspl_types.specs.Value.{EqualValuesAreOne}
use Rattle.clause_encoding.specs.Variables.{sent}
use Rattle.enactment_model.specs.Laws.{LegalByPositions}
use Rattle.enactment_model.specs.Legal.{IsLegalRun}
use Rattle.first_occurrences.specs.Occurrence.{first_position, is_occurring, is_of_kind, kind_of}
use Rattle.first_occurrences.proofs.OccurringLemmas.{key_of_kind, own_kind_of}
use Rattle.first_occurrences.proofs.PositionLemmas.{first_event}

-- an event that emits an instance of the message
pub record IsEmission (m : ℕ) (e : Event) : Type 0 where
  pub instance : Instance
  pub is : e ≡ Emit instance
  pub message_is : instance.message ≡ m

-- an event of the kind is one
pub emission_from : (m : ℕ) (e : Event) → kind_of e ≡ sent m → IsEmission m e
emission_from m (Emit i) same = record { instance = i; is = refl; message_is = omega arith }
emission_from m (Receive i) same = absurd (omega arith)

-- the first events of a run, before the first emission of the message under the key
abbrev pub run_before : List Event → List Value → ℕ → List Event
run_before run key m = take (first_position run key (sent m)) run

-- at the first emission the sender could emit the message under the key
pub can_emit_first : EqualValuesAreOne → LegalByPositions → (x : Expanded) (run : List Event) (key : List Value) (m : ℕ) → IsLegalRun x run → is_occurring run key (sent m) ≡ true → CanEmit x (history_of x (message_of x m).sender (run_before run key m)) m key
can_emit_first exact by_positions x run key m is_legal occurs =
    let found = first_event run key (sent m) occurs in
    let emission = emission_from m found.event (own_kind_of key (sent m) found.event found.of_kind) in
    let i = emission.instance in
    let at : slice_get run (first_position run key (sent m)) ≡ Some (Emit i) = subst (λ (e : Event). slice_get run (first_position run key (sent m)) ≡ Some e) emission.is found.at in
    let under : i.key ≡ key = key_of_kind exact key (sent m) (Emit i) (subst (λ (e : Event). is_of_kind key (sent m) e ≡ true) emission.is found.of_kind) in
    let enabled = (by_positions x run).0 is_legal.legal (first_position run key (sent m)) (Emit i) at in
    subst (λ (n : ℕ). CanEmit x (history_of x (message_of x n).sender (run_before run key m)) n key) emission.message_is
    (subst (λ (k : List Value). CanEmit x (history_of x (message_of x i.message).sender (run_before run key m)) i.message k) under enabled.can)
