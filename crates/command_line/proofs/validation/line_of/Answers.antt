-- The numbers of conflicts and of threads that are chosen may be allowed.
use Rattle.command_line.proofs.Numbers.{chosen_budget, chosen_threads}
use Rattle.command_line.proofs.validation.line_of.Goals as goal

pub of-requires : goal.of-requires
of-requires c = chosen_budget _ _ _ c.in_ok-conflicts.ensures

pub of-requires-2 : goal.of-requires-2
of-requires-2 c = chosen_threads _ _ _ c.in_ok-threads.ensures
