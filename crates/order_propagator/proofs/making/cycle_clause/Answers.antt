-- The clause has the literals of the one of the number.
use Rattle.std.proofs.Common.{◌≡◌, ap, ◌∙◌, [], ◌∷◌, subst}
use Rattle.clause_core.specs.Clause.{HasExactly}
use Rattle.clause_core.specs.Literal.{negated}
use Rattle.order_axioms.specs.Order.{comes_before, forbidden_cycle}
use Rattle.order_propagator.proofs.CycleLemmas.{is_of_number}
use Rattle.order_propagator.proofs.making.cycle_clause.Goals as goal

pub returns : goal.returns
returns c =
    let order = c.args.order in
    let clause = c.in_ok-clause.clause in
    let first : c.negation.result ≡ negated (comes_before order c.args.x c.args.y) = c.negation.ensures.exact ∙ ap negated c.comes_before.ensures in
    let second : c.negation-2.result ≡ negated (comes_before order c.args.y c.args.z) = c.negation-2.ensures.exact ∙ ap negated c.comes_before-2.ensures in
    let third : c.negation-3.result ≡ negated (comes_before order c.args.z c.args.x) = c.negation-3.ensures.exact ∙ ap negated c.comes_before-3.ensures in
    let exactly : HasExactly clause (forbidden_cycle order c.args.x c.args.y c.args.z) = subst (HasExactly clause) (λ n. first n ∷ second n ∷ third n ∷ []) c.in_ok-clause.ensures in
    is_of_number c.cycle_clauses_ascend.ensures c.equal_members.ensures order c.args.number c.args.x c.args.y c.args.z clause c.requires.forbids c.lits-ascending.ensures.ascending exactly
