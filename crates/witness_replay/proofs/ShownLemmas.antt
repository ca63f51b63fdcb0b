-- A model of the shared clauses shows its run: its kinds occur at their indices, in the order that it gives them.
use Rattle.std.proofs.Common.{◌≡◌, ◌≢◌, ◌↔◌, inl, inr, ℕ, ◌+◌, ◌<◌, Bool, true, List, length, take, Contains, refl, sym, ap, ◌∙◌, subst, arith, slice_get}
use Rattle.std.proofs.lemmas.Bool.{cases_Bool, cases_lt, cases_order}
use Rattle.std.proofs.lemmas.Bool.Decides.{same_from_decides}
use Rattle.std.proofs.lemmas.Option.{same_Some}
use Rattle.list_base.proofs.Membership.{early_index, early_member, index_of}
use Rattle.bspl_types.specs.declared.event.Event.{Event}
use Rattle.bspl_types.specs.declared.expanded.Expanded.{Expanded}
use Rattle.clause_encoding.specs.declared.variables.Variables.{Variables}
use Rattle.clause_encoding.specs.Variables.{IsKind, stands_before}
use Rattle.first_occurrences.specs.Occurrence.{first_position, is_occurring}
use Rattle.first_occurrences.specs.Report.{AreVariablesOf}
use Rattle.first_occurrences.specs.Shown.{OccursExactlyIfSomeEvent, OccursExactlyIfWithin}
use Rattle.witness_replay.specs.Laws.{ModelShows}
use Rattle.witness_replay.specs.Witness.{AreOrdered, IsRunOfKinds, key_of_ones}
use Rattle.witness_replay.specs.inner.Order.{is_before}
use Rattle.witness_replay.proofs.FamilyLemmas.{families, SatisfiesFamilies}
use Rattle.witness_replay.proofs.HappenLemmas.{before_at, before_earlier}
use Rattle.witness_replay.proofs.LiteralLemmas.{not_both_before, other_before, passes_if_true, true_if_passes}
use Rattle.witness_replay.proofs.RunLemmas.{event_of, kind_among, run_prefix, under_ones}

-- the kinds that occur in a run of kinds are these
occurs_if_listed : OccursExactlyIfSomeEvent → (x : Expanded) (kinds : List ℕ) (run : List Event) → IsRunOfKinds x kinds run → (kind : ℕ) → (is_occurring run (key_of_ones x) kind ≡ true) ↔ Contains kinds kind
occurs_if_listed has x kinds run is_run kind = (
  λ occurs.
      let found = (has run (key_of_ones x) kind).0 occurs in
      subst (Contains kinds) found.of_kind (kind_among x kinds run is_run found.event found.among),
  λ listed.
      let (e, among, of_kind) = event_of x kinds run is_run kind listed in
      (has run (key_of_ones x) kind).1 (record { event = e; among = among; under = (under_ones x kinds run is_run e among).key; of_kind = of_kind }),
)

-- those among the first kinds are those whose first position is among the first events
within_if_listed : OccursExactlyIfSomeEvent → OccursExactlyIfWithin → (x : Expanded) (kinds : List ℕ) (run : List Event) → IsRunOfKinds x kinds run → (kind n : ℕ) → (first_position run (key_of_ones x) kind < length (take n run)) ↔ Contains (take n kinds) kind
within_if_listed has within x kinds run is_run kind n =
    let early = occurs_if_listed has x (take n kinds) (take n run) (run_prefix x kinds run n is_run) kind in
    let first = within run (key_of_ones x) kind n in
    (λ less. early.0 (first.1 less), λ listed. first.0 (early.1 listed))

module _ (has : OccursExactlyIfSomeEvent) (within : OccursExactlyIfWithin) (x : Expanded) (vars : Variables) (v : ℕ → Bool) (kinds : List ℕ) (are : AreVariablesOf x vars) (satisfied : SatisfiesFamilies x vars v) (ordered : AreOrdered vars v kinds) (run : List Event) (is_run : IsRunOfKinds x kinds run) where
  -- a kind that stands before another one is the earlier
  earlier_if_before : (i j : ℕ) → i ≢ j → Contains kinds i → is_before vars v i j ≡ true → first_position run (key_of_ones x) i < first_position run (key_of_ones x) j
  earlier_if_before i j apart listed before =
      let (index, at) = index_of kinds i listed in
      let first = (within_if_listed has within x kinds run is_run i (index + 1)).1 (early_member kinds index (index + 1) i at (omega arith)) in
      elim (cases_lt (first_position run (key_of_ones x) j) (length (take (index + 1) run))) [
        | inl no_later ↦
            let (other, less, at_other) = early_index kinds (index + 1) j ((within_if_listed has within x kinds run is_run j (index + 1)).0 no_later) in
            elim (cases_order other index) [
              | inl same ↦ absurd (apart (same_Some i j (sym at ∙ ap (slice_get kinds) (sym same) ∙ at_other)))
              | inr (inl lower) ↦ absurd (not_both_before vars v i j apart before (before_at x vars v kinds are satisfied ordered other index j i lower at_other at).1)
              | inr (inr higher) ↦ absurd (omega (arith, less, higher))
            ]
        | inr later ↦ omega (arith, first, later)
      ]

  -- and the other way: else the other one would occur before it
  before_if_earlier : (i j : ℕ) → IsKind vars i → IsKind vars j → i ≢ j → v i ≡ true → first_position run (key_of_ones x) i < first_position run (key_of_ones x) j → is_before vars v i j ≡ true
  before_if_earlier i j kind_i kind_j apart occurs earlier =
      elim (cases_Bool (is_before vars v i j)) [
        | inl before ↦ before
        | inr none ↦
            let (index, at) = index_of kinds i ((ordered.occurring i).1 (kind_i, occurs)) in
            let listed = before_earlier x vars v kinds are satisfied ordered index i at j kind_j (λ same. apart (sym same)) (other_before vars v i j apart none) in
            let first = (within_if_listed has within x kinds run is_run j index).1 listed in
            let (twice, less, at_twice) = early_index kinds index i ((within_if_listed has within x kinds run is_run i index).0 (omega (arith, first, earlier))) in
            absurd ((before_at x vars v kinds are satisfied ordered twice index i i less at_twice at).0 refl)
      ]

-- so a model shows its run
pub model_shows : OccursExactlyIfSomeEvent → OccursExactlyIfWithin → ModelShows
model_shows has within x vars v run are satisfied is_run =
    let kinds = is_run.kinds in
    let all = families x vars v satisfied in
    let listed = occurs_if_listed has x kinds run is_run.run_of in
    let agrees : (kind : ℕ) → IsKind vars kind → v kind ≡ is_occurring run (key_of_ones x) kind =
    λ kind is_kind.
    same_from_decides (v kind) (is_occurring run (key_of_ones x) kind)
    (λ occurs. (listed kind).1 ((is_run.ordered.occurring kind).1 (is_kind, occurs)), λ occurs. ((is_run.ordered.occurring kind).0 ((listed kind).0 occurs)).1)
    (λ t. t, λ t. t) in
    record {
      occurring = agrees;
      order = λ i j kind_i kind_j apart occurs. (
        λ before. earlier_if_before has within x vars v kinds are all is_run.ordered run is_run.run_of i j apart ((listed i).0 occurs) (passes_if_true v (stands_before vars i j) before),
        λ earlier. true_if_passes v (stands_before vars i j) (before_if_earlier has within x vars v kinds are all is_run.ordered run is_run.run_of i j kind_i kind_j apart (agrees i kind_i ∙ occurs) earlier),
      );
    }
