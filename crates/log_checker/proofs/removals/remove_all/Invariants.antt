-- What the walk along the numbers keeps.
use Rattle.std.proofs.Common.{◌≡◌, take}
use Rattle.refutation_log.specs.Ledger.{AllRemoved, IsLive, without_all}
use Rattle.log_checker.proofs.removals.remove_all.Given as goal

-- the numbers that were passed were live, and are so no more
abbrev pub invariant-loop-index : goal.invariant-loop-index
invariant-loop-index l = record {
  removed : AllRemoved IsLive l.fn.table.ledger (take l.index l.numbers);
  ledger : l.table.ledger ≡ without_all l.fn.table.ledger (take l.index l.numbers);
  formula : l.table.formula ≡ l.fn.table.formula;
  derived : l.table.derived ≡ l.fn.table.derived;
}
