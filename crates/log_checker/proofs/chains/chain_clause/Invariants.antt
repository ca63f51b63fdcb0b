-- What the walk along the links of a chain keeps.
use Rattle.std.proofs.Common.{◌≡◌}
use Rattle.clause_core.specs.Numbering.{live}
use Rattle.log_checker.proofs.ChainLemmas.{IsFolded}
use Rattle.log_checker.proofs.chains.chain_clause.Given as goal

-- the links that were passed fold to the clause that is marked
abbrev pub invariant-loop-index : goal.invariant-loop-index
invariant-loop-index l = record {
  vars : l.marks.vars ≡ l.fn.marks.vars;
  folded : IsFolded (live l.table.ledger) l.chain l.index l.marks;
}
