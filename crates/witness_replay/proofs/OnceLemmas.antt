-- The run of an assignment has one event of each kind at most.
use Rattle.std.proofs.Common.{◌≡◌, inl, inr, ℕ, ◌<◌, Bool, List, Some, slice_get, Contains, sym, ap, ◌∙◌}
use Rattle.std.proofs.lemmas.Bool.{cases_order}
use Rattle.std.proofs.lemmas.Option.{get_or_from_slice_get, same_Some, slice_get_within}
use Rattle.list_base.proofs.Membership.{index_of}
use Rattle.bspl_types.specs.declared.event.Event.{Event}
use Rattle.bspl_types.specs.declared.event.Event.TheVariants.{Emit}
use Rattle.bspl_types.specs.declared.expanded.Expanded.{Expanded}
use Rattle.bspl_types.specs.History.{instance_of}
use Rattle.clause_encoding.specs.declared.variables.Variables.{Variables}
use Rattle.clause_encoding.specs.Variables.{sent}
use Rattle.first_occurrences.specs.Occurrence.{kind_of}
use Rattle.witness_replay.specs.Laws.{RunEmitsOnce}
use Rattle.witness_replay.specs.Witness.{IsRunOfAssignment}
use Rattle.witness_replay.proofs.RunLemmas.{kind_at}

module _ (x : Expanded) (vars : Variables) (v : ℕ → Bool) (run : List Event) (is_run : IsRunOfAssignment x vars v run) where
  -- events at two positions are of two kinds
  two_kinds : (j k : ℕ) (e f : Event) → j < k → slice_get run j ≡ Some e → slice_get run k ≡ Some f → kind_of e ≡ kind_of f → ⊥
  two_kinds j k e f less at_e at_f same =
      let kinds = is_run.kinds in
      let first = kind_at x kinds run is_run.run_of j e at_e in
      let second = kind_at x kinds run is_run.run_of k f at_f in
      (is_run.ordered.ordered j k (kind_of e) less (slice_get_within kinds k (kind_of f) second)).0
      (get_or_from_slice_get kinds j (kind_of e) (kind_of e) first ∙ same ∙ sym (get_or_from_slice_get kinds k (kind_of f) (kind_of e) second))

  -- so events of one kind are one
  one_event : (e f : Event) → Contains run e → Contains run f → kind_of e ≡ kind_of f → e ≡ f
  one_event e f among also same =
      let (j, at_e) = index_of run e among in
      let (k, at_f) = index_of run f also in
      elim (cases_order j k) [
        | inl one ↦ same_Some e f (sym at_e ∙ ap (slice_get run) one ∙ at_f)
        | inr (inl less) ↦ absurd (two_kinds j k e f less at_e at_f same)
        | inr (inr more) ↦ absurd (two_kinds k j f e more at_f at_e (sym same))
      ]

-- and so are emissions of one message
pub emits_once : RunEmitsOnce
emits_once x vars v run i j is_run among also same =
    ap instance_of (one_event x vars v run is_run (Emit i) (Emit j) among also (ap sent same))
