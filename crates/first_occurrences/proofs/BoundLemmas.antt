-- In a legal run a parameter is bound exactly if some message that adorns it `in` or `out` is sent.
use Rattle.std.proofs.Common.{◌≡◌, ℕ, Bool, true, List, inl, refl, Contains}
use Rattle.std.specs.Prelude.{◌==◌, ◌&&◌}
use Rattle.std.proofs.lemmas.Bool.{and_from, and_parts, eq-eqb}
use Rattle.std.proofs.lemmas.List.Elements.{All-contains}
use Rattle.list_base.proofs.Filtered.{filtered_member}
use Rattle.list_base.proofs.Membership.{early_index, index_of, member_at}
use Rattle.bspl_types.specs.declared.event.Event.{Event}
use Rattle.bspl_types.specs.declared.event.Event.TheVariants.{Emit, Receive}
use Rattle.bspl_types.specs.declared.expanded.Expanded.{Expanded}
use Rattle.bspl_types.specs.declared.value.Value.{Value}
use Rattle.bspl_types.specs.Expansion.{message_of}
use Rattle.bspl_types.specs.History.{history_of, instance_of, role_of}
use Rattle.bspl_types.specs.Instance.{Fits}
use Rattle.bspl_types.specs.Value.{EqualValuesAreOne}
use Rattle.clause_encoding.specs.Carriers.{binds}
use Rattle.clause_encoding.specs.Variables.{message_numbers, sent}
use Rattle.enactment_model.specs.Laws.{HistoryIsRun, KnownExactlyIfSomeEventBinds, LegalByPositions}
use Rattle.enactment_model.specs.Legal.{IsLegalRun}
use Rattle.enactment_model.specs.Liveness.{Bound}
use Rattle.first_occurrences.specs.Lacking.{is_bound}
use Rattle.first_occurrences.specs.Laws.{BoundExactlyIfSent}
use Rattle.first_occurrences.specs.Occurrence.{is_occurring}
use Rattle.first_occurrences.proofs.CarrierLemmas.{binding_from, binds_from}
use Rattle.first_occurrences.proofs.KnowledgeLemmas.{known_if_occurs}
use Rattle.first_occurrences.proofs.ListedLemmas.{passed, passes_by, range_bound, range_member}
use Rattle.first_occurrences.proofs.OccurringLemmas.{event_occurs}

-- the message of each event of a legal run is sent
sent_if_there : EqualValuesAreOne → LegalByPositions → (x : Expanded) (run : List Event) (key : List Value) (e : Event) → IsLegalRun x run → Contains run e → (instance_of e).key ≡ key → is_occurring run key (sent (instance_of e).message) ≡ true
sent_if_there exact by_positions x run key (Emit i) is_legal among under = event_occurs exact run key (Emit i) among under
sent_if_there exact by_positions x run key (Receive i) is_legal among under =
    let (position, at) = index_of run (Receive i) among in
    let (index, before, is) = early_index run position (Emit i) ((by_positions x run).0 is_legal.legal position (Receive i) at) in
    event_occurs exact run key (Emit i) (member_at run index (Emit i) is) under

-- the test of a message: it binds the parameter, and it is sent
abbrev binds_when_sent : Expanded → List Event → List Value → ℕ → ℕ → Bool
binds_when_sent x run key p m = binds (message_of x m) p && is_occurring run key (sent m)

-- a parameter that is bound is in a message that is sent
sent_if_bound : EqualValuesAreOne → LegalByPositions → KnownExactlyIfSomeEventBinds → HistoryIsRun → (x : Expanded) (run : List Event) (key : List Value) (p : ℕ) → IsLegalRun x run → Bound x run key p → is_bound x run key p ≡ true
sent_if_bound exact by_positions known histories x run key p is_legal bound =
    let role = bound.role in
    let binding = (known x (history_of x role run) key p (histories x run role is_legal.fits)).0 bound.known in
    let e = binding.event in
    let m = (instance_of e).message in
    let (among, at) = filtered_member (λ f. role_of x f == role) run e binding.among in
    let fits = All-contains (λ f. Fits x (instance_of f)) run e is_legal.fits among in
    passes_by (binds_when_sent x run key p) (message_numbers x) m (range_member _ m fits.known)
    (and_from (binds (message_of x m) p) (is_occurring run key (sent m)) (binds_from (message_of x m) p binding.binds) (sent_if_there exact by_positions x run key e is_legal among binding.under))

-- a parameter in a message that is sent is known to its sender
bound_if_sent : EqualValuesAreOne → KnownExactlyIfSomeEventBinds → HistoryIsRun → (x : Expanded) (run : List Event) (key : List Value) (p : ℕ) → IsLegalRun x run → is_bound x run key p ≡ true → Bound x run key p
bound_if_sent exact known histories x run key p is_legal some =
    let found = passed (binds_when_sent x run key p) (message_numbers x) some in
    let m = found.item in
    let (binding, occurs) = and_parts (binds (message_of x m) p) (is_occurring run key (sent m)) found.passes in
    let sender = (message_of x m).sender in
    record {
      role = sender;
      known = known_if_occurs exact known histories x run key sender p (sent m) is_legal.fits
          (record { message = m; known = range_bound _ m found.among; binding = binding_from (message_of x m) p binding; at = inl (eq-eqb sender sender refl, refl) })
          occurs;
    }

-- so the one holds exactly if the other does
pub bound_by_what_is_sent : EqualValuesAreOne → LegalByPositions → KnownExactlyIfSomeEventBinds → HistoryIsRun → BoundExactlyIfSent
bound_by_what_is_sent exact by_positions known histories x run key p is_legal =
    (sent_if_bound exact by_positions known histories x run key p is_legal, bound_if_sent exact known histories x run key p is_legal)
