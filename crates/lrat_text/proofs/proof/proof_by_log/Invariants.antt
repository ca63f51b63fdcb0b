-- What holds of the entries that are left.
use Rattle.std.proofs.Common.{◌+◌, ◌≤◌, drop, length}
use Rattle.lrat_text.proofs.LineLemmas.{IsPartly}
use Rattle.lrat_text.proofs.proof.proof_by_log.Given as goal

-- their lines complete the text
abbrev pub invariant-loop-entry : goal.invariant-loop-entry
invariant-loop-entry l = record {
  within : l.done ≤ length l.derived;
  partly : IsPartly l.fn.f l.fn.log l.fn.derived l.entries (drop l.done l.derived) (length l.fn.f.clauses + l.done) l.text;
}

-- the entries that are left
abbrev pub decreases-loop-entry : goal.decreases-loop-entry
decreases-loop-entry l = length l.entries
