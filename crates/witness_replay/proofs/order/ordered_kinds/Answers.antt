-- Each kind that occurs is put among those before it, which keeps their order.
use Rattle.std.proofs.Common.{◌≡◌, ◌+◌, true, false, List, ℕ, arith, subst, sym, All, ap, ◌∙◌}
use Rattle.clause_core.specs.Assignment.{valuation}
use Rattle.clause_encoding.specs.Variables.{IsKind}
use Rattle.witness_replay.specs.inner.Order.{AreOrderedBelow, inserted, IsAnotherKind}
use Rattle.witness_replay.proofs.InsertLemmas.{ordered_all, ordered_more, ordered_none, ordered_same, others_below}
use Rattle.witness_replay.proofs.ListedLemmas.{each_member}
use Rattle.witness_replay.proofs.order.ordered_kinds.Goals as goal
use Rattle.witness_replay.proofs.order.ordered_kinds.Goals.{then-value+in_ok-kinds, else-value}

pub loop-kind-init : goal.loop-kind-init
loop-kind-init c = subst (AreOrderedBelow c.args.vars (valuation c.args.s.now) 1) (sym c.new-kinds.ensures) (ordered_none c.args.vars (valuation c.args.s.now))

pub insert-requires-clause-others : goal.insert-requires-clause-others
insert-requires-clause-others c =
    let all = each_member (IsAnotherKind c.args.vars c.loop-kind.kind) c.loop-kind.kinds
    (others_below c.args.vars (valuation c.args.s.now) c.loop-kind.kind c.loop-kind.kinds c.loop-kind.invariant) in
    subst (λ (kinds : List ℕ). All (IsAnotherKind c.args.vars c.loop-kind.kind) kinds) (sym c.as_slice.ensures) all

pub loop-kind-preserved : goal.loop-kind-preserved
loop-kind-preserved c =
    let v = valuation c.args.s.now in
    let kind = c.loop-kind.kind in
    let is_kind : IsKind c.args.vars kind = record { from_one = omega arith; up_to = omega arith } in
    elim c.if-value.branch [
      | then-value+in_ok-kinds w ↦
          let occurs : v kind ≡ true = sym c.value.ensures ∙ w.if-value.true in
          let is : c.if-value.kinds ≡ inserted c.args.vars v kind c.loop-kind.kinds = w.kinds-is ∙ w.in_ok-kinds.ensures ∙ ap (inserted c.args.vars v kind) w.as_slice.ensures in
          subst (AreOrderedBelow c.args.vars v (kind + 1)) (sym is) (ordered_more c.args.vars v kind c.loop-kind.kinds c.requires.satisfied is_kind occurs c.loop-kind.invariant)
      | else-value w ↦
          let never : v kind ≡ false = sym c.value.ensures ∙ w.if-value.false in
          subst (AreOrderedBelow c.args.vars v (kind + 1)) (sym w.kinds-is) (ordered_same c.args.vars v kind c.loop-kind.kinds never c.loop-kind.invariant)
    ]

pub returns : goal.returns
returns c = ordered_all c.args.vars (valuation c.args.s.now) c.loop-kind.kind c.loop-kind.kinds (omega arith) c.loop-kind.invariant
