-- What the loop over the parameters keeps.
use Rattle.bspl_types.specs.Choice.{is_chosen}
use Rattle.role_questions.proofs.ListedLemmas.{listed}
use Rattle.role_questions.proofs.form_list.chosen.Given as goal
use Rattle.std.proofs.Common.{◌≡◌}

-- those before this one whose values are chosen
abbrev pub invariant-loop-c : goal.invariant-loop-c
invariant-loop-c l = l.outs ≡ listed (is_chosen l.keys) (λ c. c.param) l.carried l.c-index
