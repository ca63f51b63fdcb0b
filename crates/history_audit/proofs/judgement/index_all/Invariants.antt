-- The histories before the index are indexed.
use Rattle.std.proofs.Common.{◌≡◌, take}
use Rattle.history_audit.proofs.judgement.index_all.Given as goal

abbrev pub invariant-loop-history : goal.invariant-loop-history
invariant-loop-history l = l.indices ≡ take l.history-index l.histories
