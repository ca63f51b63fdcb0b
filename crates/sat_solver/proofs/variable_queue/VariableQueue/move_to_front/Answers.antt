-- Sorting keeps that the variables exist.
use Rattle.std.proofs.Common.{◌≤◌, ℕ}
use Rattle.std.proofs.lemmas.List.Sorted.{All-permutation}
use Rattle.sat_solver.proofs.variable_queue.VariableQueue.move_to_front.Goals as goal

pub move_var-requires : goal.move_var-requires
move_var-requires c =
    let exist = All-permutation (λ (entry : ℕ × ℕ). entry.1 ≤ c.args.self.now.vars) _ _ c.sort_unstable_by_key.ensures.permutation c.loop-lit.invariant in
    rw (c.loop-entry.invariant, c.as_slice-entry-items.ensures.value) (exist c.loop-entry.entry-index (0, 0) (rw c.as_slice-entry-items.ensures.value at c.loop-entry-test.true))
