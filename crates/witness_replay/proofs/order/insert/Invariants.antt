-- The kinds passed so far, of which those before the kind come first, and then the others.
use Rattle.std.proofs.Common.{◌≡◌, ◌++◌, ◌∷◌, not, take}
use Rattle.std.specs.List.{filter}
use Rattle.clause_core.specs.Assignment.{valuation}
use Rattle.witness_replay.specs.inner.Order.{is_before}
use Rattle.witness_replay.proofs.order.insert.Given as goal

abbrev pub invariant-loop-k : goal.invariant-loop-k
invariant-loop-k l = l.list ≡ filter (λ k. is_before l.vars (valuation l.s) k l.kind) (take l.k-index l.kinds)

abbrev pub invariant-loop-k-2 : goal.invariant-loop-k-2
invariant-loop-k-2 l =
    l.list ≡
    filter (λ k. is_before l.vars (valuation l.s) k l.kind) l.kinds ++ l.kind ∷
    filter (λ k. not (is_before l.vars (valuation l.s) k l.kind)) (take l.k-index l.kinds)
