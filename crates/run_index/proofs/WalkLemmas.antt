-- The events that a walk along the chain of a key has passed, and what they make known.
use Rattle.std.proofs.Common.{◌≡◌, ℕ, ◌+◌, ◌<◌, ◌≤◌, List, [], ◌∷◌, ◌++◌, length, get_or, take, Some, inl, inr, sym, ap, ◌∙◌, subst, arith}
use Rattle.std.specs.Prelude.{slice_get}
use Rattle.std.specs.BTreeSet.{BTreeSet, IsEmpty}
use Rattle.std.specs.List.{Contains}
use Rattle.std.proofs.lemmas.Bool.{cases_lt, true≢false}
use Rattle.std.proofs.lemmas.List.{take_all}
use Rattle.std.proofs.lemmas.List.Elements.{All-contains, Contains-append_cases, Contains-append_left}
use Rattle.std.proofs.lemmas.Option.{same_Some, slice_get-get_or, slice_get_within}
use Rattle.list_base.proofs.Members.{end_same, nowhere, only}
use Rattle.list_base.proofs.Membership.{early_index, early_member, member_at}
use Rattle.bspl_types.specs.declared.event.Event.{Event}
use Rattle.bspl_types.specs.declared.expanded.Expanded.{Expanded}
use Rattle.bspl_types.specs.declared.value.Value.{Value}
use Rattle.bspl_types.specs.History.{IsRun, instance_of}
use Rattle.bspl_types.specs.Instance.{Fits}
use Rattle.run_index.specs.declared.demand.Demand.{Demand}
use Rattle.run_index.specs.inner.Chain.{IsNextUnder}
use Rattle.run_index.specs.inner.Demands.{Meets}
use Rattle.run_index.specs.inner.Enactment.{HasEventsUnder}
use Rattle.run_index.specs.inner.Facts.{AddsFacts, AreFacts, AreFactsBefore, HasFact, IsFactOf, IsFactUnder}
use Rattle.run_index.specs.inner.Failures.{IsFirstFailure}

-- the walk is at an event under the key or at the end, and has gathered the events before it
pub record IsAt (run : List Event) (key : List Value) (position : ℕ) (events : List Event) : Type 0 where
  pub within : position ≤ length run
  pub under : (e : Event) → slice_get run position ≡ Some e → (instance_of e).key ≡ key
  pub part : HasEventsUnder (take position run) key events

-- nothing is gathered before the first event
pub at_start : (run : List Event) (key : List Value) (n : ℕ) → IsNextUnder run key 0 n → IsAt run key n []
at_start run key n next =
    record {
      within = next.within;
      under = next.under;
      part = record {
        members = λ e. (
          λ among. absurd (nowhere e among),
          λ (there, own). let (j, before, at) = early_index run n e there in absurd (next.skipped j e (omega arith) before at own),
        );
      };
    }

-- the event is gathered on the way to the next one
pub at_next : (run : List Event) (key : List Value) (a n : ℕ) (event : Event) (events : List Event) → slice_get run a ≡ Some event → IsAt run key a events → IsNextUnder run (instance_of event).key (a + 1) n → IsAt run key n (events ++ event ∷ [])
at_next run key a n event events at walk step =
    let more = events ++ event ∷ [] in
    let own : (instance_of event).key ≡ key = walk.under event at in
    let next : IsNextUnder run key (a + 1) n = subst (λ k. IsNextUnder run k (a + 1) n) own step in
    let to : (e : Event) → Contains more e → Contains (take n run) e × ((instance_of e).key ≡ key) =
    λ e among. elim (Contains-append_cases events (event ∷ []) e among) [
      | inl old ↦ let (there, under) = (walk.part.members e).0 old in
          let (j, before, is) = early_index run a e there in
          (early_member run j n e is (omega (arith, before, next.after)), under)
      | inr last ↦
          let same = only event e last in
          (early_member run a n e (at ∙ ap Some same) (omega (arith, next.after)), ap (λ f. (instance_of f).key) (sym same) ∙ own)
    ] in
    let from : (e : Event) → Contains (take n run) e × ((instance_of e).key ≡ key) → Contains more e =
    λ e (there, under). let (j, before, is) = early_index run n e there in
    elim (cases_lt j a) [
      | inl old ↦ Contains-append_left events (event ∷ []) e ((walk.part.members e).1 (early_member run j a e is old, under))
      | inr later ↦ elim (cases_lt a j) [
        | inl between ↦ absurd (next.skipped j e (omega (arith, between)) before is under)
        | inr here ↦ end_same events event e (same_Some event e (sym at ∙ ap (slice_get run) (omega (arith, later, here)) ∙ is))
      ]
    ] in
    record { within = next.within; under = next.under; part = record { members = λ e. (to e, from e) } }

-- at the end all events under the key are gathered
pub at_end : (run : List Event) (key : List Value) (n : ℕ) (events : List Event) → length run ≤ n → IsAt run key n events → HasEventsUnder run key events
at_end run key n events is_end walk = subst (λ es. HasEventsUnder es key events) (take_all n run is_end) walk.part

-- what is gathered of a run is a run
pub part_is_run : (x : Expanded) (run : List Event) (key : List Value) (events : List Event) → IsRun x run → HasEventsUnder run key events → IsRun x events
part_is_run x run key events is_run part k d within =
    let e = get_or events k d in
    let (there, _) = (part.members e).0 (member_at events k e (slice_get-get_or events k d within)) in
    All-contains (λ f. Fits x (instance_of f)) run e is_run there

-- the first events of a run are a run
pub early_is_run : (x : Expanded) (run : List Event) (n : ℕ) → IsRun x run → IsRun x (take n run)
early_is_run x run n is_run k d within =
    let e = get_or (take n run) k d in
    let (j, _, at) = early_index run n e (member_at (take n run) k e (slice_get-get_or (take n run) k d within)) in
    All-contains (λ f. Fits x (instance_of f)) run e is_run (member_at run j e at)

-- the walk is at an event under the key or at the end, and has learned what those before it make known
pub record KnowsUntil (x : Expanded) (run : List Event) (key : List Value) (position : ℕ) (facts : BTreeSet (List Value)) : Type 0 where
  pub within : position ≤ length run
  pub under : (e : Event) → slice_get run position ≡ Some e → (instance_of e).key ≡ key
  pub known : AreFacts x key (take position run) facts

-- nothing is known before the first event
knows_start : (x : Expanded) (run : List Event) (key : List Value) (n : ℕ) (facts : BTreeSet (List Value)) → IsNextUnder run key 0 n → IsEmpty facts → KnowsUntil x run key n facts
knows_start x run key n facts next empty =
    record {
      within = next.within;
      under = next.under;
      known = record {
        exact = λ fact. (
          λ has. absurd (true≢false (sym (rw empty at has))),
          λ makes. let (j, before, at) = early_index run n makes.event makes.among in absurd (next.skipped j makes.event (omega arith) before at makes.under),
        );
      };
    }

-- what the event makes known is learned on the way to the next one
knows_next : (x : Expanded) (run : List Event) (key : List Value) (a n : ℕ) (event : Event) (facts more : BTreeSet (List Value)) → slice_get run a ≡ Some event → KnowsUntil x run key a facts → AddsFacts facts more (IsFactOf x event) → IsNextUnder run (instance_of event).key (a + 1) n → KnowsUntil x run key n more
knows_next x run key a n event facts more at walk added step =
    let own : (instance_of event).key ≡ key = walk.under event at in
    let next : IsNextUnder run key (a + 1) n = subst (λ k. IsNextUnder run k (a + 1) n) own step in
    let to : (fact : List Value) → HasFact more fact → IsFactUnder x key (take n run) fact =
    λ fact has. elim ((added.exact fact).0 has) [
      | inl old ↦
          let makes = (walk.known.exact fact).0 old in
          let (j, before, is) = early_index run a makes.event makes.among in
          record { event = makes.event; among = early_member run j n makes.event is (omega (arith, before, next.after)); under = makes.under; makes = makes.makes }
      | inr new ↦ record { event = event; among = early_member run a n event at (omega (arith, next.after)); under = own; makes = new }
    ] in
    let from : (fact : List Value) → IsFactUnder x key (take n run) fact → HasFact more fact =
    λ fact makes.
    let (j, before, is) = early_index run n makes.event makes.among in
    (added.exact fact).1 (elim (cases_lt j a) [
      | inl old ↦ inl ((walk.known.exact fact).1 (record { event = makes.event; among = early_member run j a makes.event is old; under = makes.under; makes = makes.makes }))
      | inr later ↦ inr (elim (cases_lt a j) [
        | inl between ↦ absurd (next.skipped j makes.event (omega (arith, between)) before is makes.under)
        | inr here ↦ subst (λ e. IsFactOf x e fact) (same_Some makes.event event (sym is ∙ ap (slice_get run) (omega (arith, later, here)) ∙ at)) makes.makes
      ])
    ]) in
    record { within = next.within; under = next.under; known = record { exact = λ fact. (to fact, from fact) } }

-- the walk has passed events that meet the demand
pub record HasPassed (x : Expanded) (demand : Demand) (run : List Event) (key : List Value) (position : ℕ) (facts : BTreeSet (List Value)) : Type 0 where
  pub walk : KnowsUntil x run key position facts
  pub met : (k : ℕ) (e : Event) → k < position → slice_get run k ≡ Some e → (instance_of e).key ≡ key → Meets x demand (take k run) e

-- it has passed none before the first one
pub passed_start : (x : Expanded) (demand : Demand) (run : List Event) (key : List Value) (n : ℕ) (facts : BTreeSet (List Value)) → IsNextUnder run key 0 n → IsEmpty facts → HasPassed x demand run key n facts
passed_start x demand run key n facts next empty =
    record { walk = knows_start x run key n facts next empty; met = λ k e before at own. absurd (next.skipped k e (omega arith) before at own) }

-- the facts are those before the event there
pub facts_before : (x : Expanded) (demand : Demand) (run : List Event) (key : List Value) (n : ℕ) (facts : BTreeSet (List Value)) → HasPassed x demand run key n facts → AreFactsBefore x run n facts
facts_before x demand run key n facts passed event at = subst (λ k. AreFacts x k (take n run) facts) (sym (passed.walk.under event at)) passed.walk.known

-- it passes an event that meets the demand
pub passed_next : (x : Expanded) (demand : Demand) (run : List Event) (key : List Value) (a n : ℕ) (event : Event) (facts more : BTreeSet (List Value)) → slice_get run a ≡ Some event → HasPassed x demand run key a facts → Meets x demand (take a run) event → AddsFacts facts more (IsFactOf x event) → IsNextUnder run (instance_of event).key (a + 1) n → HasPassed x demand run key n more
passed_next x demand run key a n event facts more at passed meets added step =
    let own = passed.walk.under event at in
    record {
      walk = knows_next x run key a n event facts more at passed.walk added step;
      met = λ k e before is under. elim (cases_lt k a) [
        | inl old ↦ passed.met k e old is under
        | inr later ↦ elim (cases_lt a k) [
          | inl between ↦ absurd (step.skipped k e (omega (arith, between)) before is (under ∙ sym own))
          | inr here ↦
              let is_a : a ≡ k = omega (arith, later, here) in
              let same : event ≡ e = same_Some event e (sym at ∙ ap (slice_get run) is_a ∙ is) in
              subst (λ f. Meets x demand (take k run) f) same (subst (λ j. Meets x demand (take j run) event) is_a meets)
        ]
      ];
    }

-- an event that does not meet the demand is the first failure
pub failure_here : (x : Expanded) (demand : Demand) (run : List Event) (key : List Value) (a : ℕ) (event : Event) (facts : BTreeSet (List Value)) → slice_get run a ≡ Some event → HasPassed x demand run key a facts → ¬ Meets x demand (take a run) event → IsFirstFailure x demand run (λ e. (instance_of e).key ≡ key) a
failure_here x demand run key a event facts at passed fails =
    record {
      within = passed.walk.within;
      met = passed.met;
      failed = λ e is meets. fails (subst (Meets x demand (take a run)) (same_Some e event (sym is ∙ at)) meets);
    }

-- at the end there is none
pub no_failure : (x : Expanded) (demand : Demand) (run : List Event) (key : List Value) (n : ℕ) (facts : BTreeSet (List Value)) → length run ≤ n → HasPassed x demand run key n facts → IsFirstFailure x demand run (λ e. (instance_of e).key ≡ key) n
no_failure x demand run key n facts is_end passed =
    record {
      within = passed.walk.within;
      met = passed.met;
      failed = λ e is. absurd (omega (arith, is_end, slice_get_within run n e is));
    }
