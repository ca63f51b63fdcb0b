-- One link more was folded, and the clause of the marks is the chain's.
use Rattle.std.proofs.Common.{◌≤◌, ◌∙◌, length, arith, rules}
use Rattle.clause_core.specs.Clause.{IsAscending}
use Rattle.log_checker.proofs.ChainLemmas.{IsFolded-next, Derives-folded}
use Rattle.log_checker.proofs.chains.chain_clause.Goals as goal

pub loop-index-preserved : goal.loop-index-preserved
loop-index-preserved c = record {
  vars = c.in_ok-fold_link.ensures.vars ∙ c.loop-index.invariant.vars;
  folded = IsFolded-next _ c.args.chain.now c.loop-index.index _ _ c.fold_link.new.marks (rw c.as_slice-link-items.ensures at c.loop-index-test.true) c.loop-index.invariant.folded
      (rw c.as_slice-link-items.ensures at (c.in_ok-fold_link.ensures.ok c.loop-index.invariant.folded.clause c.loop-index.invariant.folded.marks));
}

pub returns-clause-ok : goal.returns-clause-ok
returns-clause-ok c =
    let past : length c.args.chain.now.links ≤ c.loop-index.index = omega (arith, rw c.as_slice-link-items.ensures at c.loop-index-test.false) in
    let ascending : IsAscending c.in_ok-take_clause.field-0 = search rules in
    Derives-folded c.equal_members.ensures _ c.args.chain.now _ c.loop-index.index c.loop-index.marks past c.loop-index.invariant.folded ascending c.in_ok-take_clause.ensures.clause
