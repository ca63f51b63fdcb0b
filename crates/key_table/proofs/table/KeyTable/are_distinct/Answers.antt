-- Keys that have indices are distinct.
use Rattle.std.proofs.Common.{◌≢◌, subst}
use Rattle.std.specs.List.{AllPairs}
use Rattle.key_table.proofs.table.KeyTable.are_distinct.Goals as goal

pub returns : goal.returns
returns c = subst (λ keys. AllPairs (λ k l. k ≢ l) keys) c.self.view_is c.self.invariant.distinct
