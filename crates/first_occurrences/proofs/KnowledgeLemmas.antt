-- What a role knows at the end of a run: what the kinds that occur at it make known, and nothing else.
use Rattle.std.proofs.Common.{◌≡◌, ℕ, true, List, sym, subst, Contains}
use Rattle.std.specs.Prelude.{◌==◌}
use Rattle.std.proofs.lemmas.List.Elements.{All-contains}
use Rattle.list_base.proofs.Filtered.{filtered_member, kept_member}
use Rattle.list_base.proofs.Membership.{member_at}
use Rattle.bspl_types.specs.declared.event.Event.{Event}
use Rattle.bspl_types.specs.declared.expanded.Expanded.{Expanded}
use Rattle.bspl_types.specs.declared.value.Value.{Value}
use Rattle.bspl_types.specs.History.{history_of, instance_of, IsRun, role_of}
use Rattle.bspl_types.specs.Instance.{Fits}
use Rattle.bspl_types.specs.Knowledge.{IsKnown}
use Rattle.bspl_types.specs.Value.{EqualValuesAreOne}
use Rattle.clause_encoding.specs.Carriers.{carriers}
use Rattle.enactment_model.specs.Laws.{HistoryIsRun, KnownExactlyIfSomeEventBinds}
use Rattle.first_occurrences.specs.Occurrence.{first_position, is_occurring, kind_of}
use Rattle.first_occurrences.proofs.CarrierLemmas.{IsCarrier, carrier_event, carrier_member}
use Rattle.first_occurrences.proofs.OccurringLemmas.{event_occurs, key_of_kind, own_kind_of}
use Rattle.first_occurrences.proofs.PositionLemmas.{first_event}

-- a role knows what an event makes known to it
pub known_from_event : KnownExactlyIfSomeEventBinds → (x : Expanded) (run : List Event) (key : List Value) (role p : ℕ) (e : Event) → IsRun x (history_of x role run) → Contains run e → (instance_of e).key ≡ key → IsCarrier x role p (kind_of e) → IsKnown x (history_of x role run) key p
known_from_event known x run key role p e is_run among under carrier =
    let (at, binds) = carrier_event x role p e carrier in
    (known x (history_of x role run) key p is_run).1
    (record { event = e; among = kept_member (λ f. role_of x f == role) run e at among; under = under; binds = binds })

-- it knows what a kind that occurs makes known to it
pub known_if_occurs : EqualValuesAreOne → KnownExactlyIfSomeEventBinds → HistoryIsRun → (x : Expanded) (run : List Event) (key : List Value) (role p kind : ℕ) → IsRun x run → IsCarrier x role p kind → is_occurring run key kind ≡ true → IsKnown x (history_of x role run) key p
known_if_occurs exact known histories x run key role p kind is_run carrier occurs =
    let found = first_event run key kind occurs in
    known_from_event known x run key role p found.event (histories x run role is_run) (member_at run (first_position run key kind) found.event found.at)
    (key_of_kind exact key kind found.event found.of_kind)
    (subst (IsCarrier x role p) (sym (own_kind_of key kind found.event found.of_kind)) carrier)

-- a kind that makes the parameter known at the role, and occurs
pub record IsMadeKnown (x : Expanded) (run : List Event) (key : List Value) (role p : ℕ) : Type 0 where
  pub kind : ℕ
  pub carrier : Contains (carriers x role p) kind
  pub occurs : is_occurring run key kind ≡ true

-- there is one of each parameter that it knows
pub made_known : EqualValuesAreOne → KnownExactlyIfSomeEventBinds → HistoryIsRun → (x : Expanded) (run : List Event) (key : List Value) (role p : ℕ) → IsRun x run → IsKnown x (history_of x role run) key p → IsMadeKnown x run key role p
made_known exact known histories x run key role p is_run is_known =
    let binding = (known x (history_of x role run) key p (histories x run role is_run)).0 is_known in
    let e = binding.event in
    let (among, at) = filtered_member (λ f. role_of x f == role) run e binding.among in
    let fits = All-contains (λ f. Fits x (instance_of f)) run e is_run among in
    record {
      kind = kind_of e;
      carrier = carrier_member x role p e fits.known at binding.binds;
      occurs = event_occurs exact run key e among binding.under;
    }
