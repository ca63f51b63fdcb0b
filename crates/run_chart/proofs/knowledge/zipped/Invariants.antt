-- What the loop over the parameters leaves to take.
use Rattle.std.proofs.Common.{◌≡◌, ◌++◌, drop}
use Rattle.std.specs.List.{zip}
use Rattle.bspl_types.specs.Adornment.{valued}
use Rattle.run_chart.proofs.knowledge.zipped.Given as goal

-- the pairs taken, and those that remain, are all pairs
abbrev pub invariant-loop-c : goal.invariant-loop-c
invariant-loop-c l = l.list ++ zip (valued (drop l.c-index l.carried)) l.remaining ≡ zip (valued l.carried) l.values
