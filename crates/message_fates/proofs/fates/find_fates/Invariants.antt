-- What is found of the messages from the last one on.
use Rattle.std.proofs.Common.{◌≡◌, ◌≤◌, length}
use Rattle.message_fates.proofs.FateLemmas.{HaveFatesFrom}
use Rattle.message_fates.proofs.fates.find_fates.Given as goal

-- the messages from this one on have their fates, and the search is one of the same protocol
abbrev pub invariant-from_the_last : goal.invariant-from_the_last
invariant-from_the_last l = HaveFatesFrom l.fn.search l.budget l.message l.fates × (length l.fates ≡ length l.known) × (l.message ≤ length l.known) × (l.search ≡ l.fn.search)

abbrev pub decreases-from_the_last : goal.decreases-from_the_last
decreases-from_the_last l = l.message
