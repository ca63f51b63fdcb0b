-- In a legal run something has happened exactly if one of its kinds occurs.
use Rattle.std.proofs.Common.{◌≡◌, ◌↔◌, ℕ, Bool, true, List, refl, sym, ◌∙◌, subst, arith, Contains, [], ◌∷◌}
use Rattle.std.specs.List.{list_any}
use Rattle.list_base.proofs.Members.{here, only}
use Rattle.bspl_types.specs.declared.event.Event.{Event}
use Rattle.bspl_types.specs.declared.event.Event.TheVariants.{Emit, Receive}
use Rattle.bspl_types.specs.declared.expanded.Expanded.{Expanded}
use Rattle.bspl_types.specs.declared.value.Value.{Value}
use Rattle.bspl_types.specs.Expansion.{message_of}
use Rattle.bspl_types.specs.History.{instance_of}
use Rattle.clause_encoding.specs.Carriers.{binds}
use Rattle.clause_encoding.specs.Variables.{message_numbers, received, sent}
use Rattle.enactment_model.specs.Legal.{IsLegalRun}
use Rattle.enactment_model.specs.Liveness.{IsEmitted, IsReceived}
use Rattle.first_occurrences.specs.Laws.{BoundExactlyIfSent}
use Rattle.first_occurrences.specs.Occurrence.{is_occurring, kind_of}
use Rattle.first_occurrences.specs.Shown.{KnownExactlyIfCarried, OccursExactlyIfSomeEvent}
use Rattle.questions.specs.declared.question.Happening.{Happening}
use Rattle.questions.specs.declared.question.Happening.TheVariants as happenings
use Rattle.questions.specs.Happening.{HasHappened}
use Rattle.question_formula.specs.Happenings.{binding_kinds, kinds_of}
use Rattle.question_formula.proofs.ListedLemmas.{any_of_filtered, passed, passes_by}

-- one of the kinds occurs
abbrev pub some_kind : List Event → List Value → List ℕ → Bool
some_kind run key kinds = list_any (is_occurring run key) kinds

-- an event of the kind of an emission emits the message
emitted_by : (run : List Event) (key : List Value) (m : ℕ) (e : Event) → Contains run e → (instance_of e).key ≡ key → kind_of e ≡ sent m → IsEmitted run key m
emitted_by run key m (Emit i) among under same = record { instance = i; emitted = among; under = under; message_is = omega arith }
emitted_by run key m (Receive i) among under same = absurd (omega arith)

-- and one of the kind of a reception receives it
received_by : (run : List Event) (key : List Value) (m : ℕ) (e : Event) → Contains run e → (instance_of e).key ≡ key → kind_of e ≡ received m → IsReceived run key m
received_by run key m (Emit i) among under same = absurd (omega arith)
received_by run key m (Receive i) among under same = record { instance = i; received = among; under = under; message_is = omega arith }

module _ (has : OccursExactlyIfSomeEvent) (run : List Event) (key : List Value) (m : ℕ) where
  -- a message is emitted exactly if its emission occurs
  pub emitted_if_occurs : IsEmitted run key m ↔ (is_occurring run key (sent m) ≡ true)
  emitted_if_occurs = (
    λ emitted. (has run key (sent m)).1 (record { event = Emit emitted.instance; among = emitted.emitted; under = emitted.under; of_kind = subst (λ n. sent emitted.instance.message ≡ sent n) emitted.message_is refl }),
    λ occurs. let found = (has run key (sent m)).0 occurs in emitted_by run key m found.event found.among found.under found.of_kind,
  )

  -- and received exactly if its reception does
  pub received_if_occurs : IsReceived run key m ↔ (is_occurring run key (received m) ≡ true)
  received_if_occurs = (
    λ arrived. (has run key (received m)).1 (record { event = Receive arrived.instance; among = arrived.received; under = arrived.under; of_kind = subst (λ n. received arrived.instance.message ≡ received n) arrived.message_is refl }),
    λ occurs. let found = (has run key (received m)).0 occurs in received_by run key m found.event found.among found.under found.of_kind,
  )

-- one kind alone
one_kind : (run : List Event) (key : List Value) (kind : ℕ) → (is_occurring run key kind ≡ true) ↔ (some_kind run key (kind ∷ []) ≡ true)
one_kind run key kind = (
  λ occurs. passes_by (is_occurring run key) (kind ∷ []) kind (here kind []) occurs,
  λ some.
      let found = passed (is_occurring run key) (kind ∷ []) some in
      subst (λ k. is_occurring run key k ≡ true) (sym (only kind found.item found.among)) found.passes,
)

-- the one exactly if the other, and that exactly if the third
through : {A B C : Type 0} → (A ↔ B) → (B ↔ C) → (A ↔ C)
through one other = (λ a. other.0 (one.0 a), λ c. one.1 (other.1 c))

-- what is bound is in a message whose emission occurs
bound_kinds : BoundExactlyIfSent → (x : Expanded) (run : List Event) (key : List Value) (p : ℕ) → IsLegalRun x run → HasHappened x run key (happenings.Bound p) ↔ (some_kind run key (binding_kinds x p) ≡ true)
bound_kinds bound x run key p is_legal =
    let same = any_of_filtered (λ m. binds (message_of x m) p) sent (is_occurring run key) (message_numbers x) in
    (λ is. sym same ∙ (bound x run key p is_legal).0 is, λ some. (bound x run key p is_legal).1 (same ∙ some))

-- each happening
pub happened_if_occurs : OccursExactlyIfSomeEvent → KnownExactlyIfCarried → BoundExactlyIfSent → (x : Expanded) (run : List Event) (key : List Value) → IsLegalRun x run → (h : Happening) → HasHappened x run key h ↔ (some_kind run key (kinds_of x h) ≡ true)
happened_if_occurs has known bound x run key is_legal (happenings.Sent m) = through (emitted_if_occurs has run key m) (one_kind run key (sent m))
happened_if_occurs has known bound x run key is_legal (happenings.Received m) = through (received_if_occurs has run key m) (one_kind run key (received m))
happened_if_occurs has known bound x run key is_legal (happenings.Knows role p) = known x run key role p is_legal
happened_if_occurs has known bound x run key is_legal (happenings.Bound p) = bound_kinds bound x run key p is_legal
