-- Which kinds occur: those of the run's events, and among the first events those whose first position is one of theirs.
use Rattle.std.proofs.Common.{◌≡◌, ℕ, ◌<◌, true, List, inl, inr, length, take, subst, arith, length-take}
use Rattle.std.proofs.lemmas.Bool.{cases_Bool}
use Rattle.std.proofs.lemmas.Option.{slice_get_within}
use Rattle.list_base.proofs.Membership.{early_index, early_member, member_at}
use Rattle.bspl_types.specs.declared.event.Event.{Event}
use Rattle.bspl_types.specs.declared.value.Value.{Value}
use Rattle.bspl_types.specs.Value.{EqualValuesAreOne}
use Rattle.clause_encoding.specs.Carriers.{carriers}
use Rattle.enactment_model.specs.Laws.{HistoryIsRun, KnownExactlyIfSomeEventBinds}
use Rattle.first_occurrences.specs.Occurrence.{first_position, is_occurring, is_of_kind}
use Rattle.first_occurrences.specs.Shown.{HasEventOfKind, KnownExactlyIfCarried, OccursExactlyIfSomeEvent, OccursExactlyIfWithin}
use Rattle.first_occurrences.proofs.CarrierLemmas.{carrier_from}
use Rattle.first_occurrences.proofs.KnowledgeLemmas.{known_if_occurs, made_known}
use Rattle.first_occurrences.proofs.ListedLemmas.{passed, passes_by}
use Rattle.first_occurrences.proofs.OccurringLemmas.{event_occurs, key_of_kind, own_kind_of}
use Rattle.first_occurrences.proofs.PositionLemmas.{first_at_most, first_event, position_of_none}

-- a kind that occurs has an event
event_if_occurs : EqualValuesAreOne → (run : List Event) (key : List Value) (kind : ℕ) → is_occurring run key kind ≡ true → HasEventOfKind run key kind
event_if_occurs exact run key kind occurs =
    let found = first_event run key kind occurs in
    record {
      event = found.event;
      among = member_at run (first_position run key kind) found.event found.at;
      under = key_of_kind exact key kind found.event found.of_kind;
      of_kind = own_kind_of key kind found.event found.of_kind;
    }

-- and so does a kind that has one occur
pub occurs_by_event : EqualValuesAreOne → OccursExactlyIfSomeEvent
occurs_by_event exact run key kind = (
  event_if_occurs exact run key kind,
  λ has. subst (λ n. is_occurring run key n ≡ true) has.of_kind (event_occurs exact run key has.event has.among has.under),
)

-- a kind among the first events has its first position there
within_if_early : (run : List Event) (key : List Value) (kind n : ℕ) → is_occurring (take n run) key kind ≡ true → first_position run key kind < length (take n run)
within_if_early run key kind n occurs =
    let found = passed (is_of_kind key kind) (take n run) occurs in
    let (index, before, at) = early_index run n found.item found.among in
    let within = slice_get_within run index found.item at in
    let no_later = first_at_most run key kind index found.item at found.passes in
    omega (arith, within, before, no_later, length-take n run)

-- and one whose first position is there is among them
early_if_within : (run : List Event) (key : List Value) (kind n : ℕ) → first_position run key kind < length (take n run) → is_occurring (take n run) key kind ≡ true
early_if_within run key kind n within =
    elim (cases_Bool (is_occurring run key kind)) [
      | inl occurs ↦
          let found = first_event run key kind occurs in
          let early = early_member run (first_position run key kind) n found.event found.at (omega (arith, within, length-take n run)) in
          passes_by (is_of_kind key kind) (take n run) found.event early found.of_kind
      | inr none ↦ let last = position_of_none run key kind none in absurd (omega (arith, within, last, length-take n run))
    ]

pub occurs_within : OccursExactlyIfWithin
occurs_within run key kind n = (within_if_early run key kind n, early_if_within run key kind n)

-- a role knows what a kind that occurs makes known to it, and no more
pub known_by_carriers : EqualValuesAreOne → KnownExactlyIfSomeEventBinds → HistoryIsRun → KnownExactlyIfCarried
known_by_carriers exact known histories x run key role p is_legal = (
  λ is_known.
      let made = made_known exact known histories x run key role p is_legal.fits is_known in
      passes_by (is_occurring run key) (carriers x role p) made.kind made.carrier made.occurs,
  λ some.
      let found = passed (is_occurring run key) (carriers x role p) some in
      known_if_occurs exact known histories x run key role p found.item is_legal.fits (carrier_from x role p found.item found.among) found.passes,
)
