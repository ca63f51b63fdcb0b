-- The literal is listed, and is marked.
use Rattle.log_checker.proofs.MarkLemmas.{IsMarkTable-set}
use Rattle.log_checker.proofs.mark_table.MarkTable.insert.Goals as goal

pub invariant_of-self-then-not-index : goal.invariant_of-self-then-not-index
invariant_of-self-then-not-index c =
    IsMarkTable-set _ _ _ c.args.lit _ c.self.invariant c.requires.from_one (rw (← c.self.view_is) at c.requires.exists) c.rank-index.ensures c.in_ok-push.ensures.items
