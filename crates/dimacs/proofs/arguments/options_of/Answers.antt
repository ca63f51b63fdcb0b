-- The options of the arguments after `--lrat`, or of all of them.
use Rattle.dimacs.proofs.ArgumentLemmas.{matched, no_options, no_options_after, options_given, options_after}
use Rattle.dimacs.proofs.arguments.options_of.Goals as goal

pub returns-in-Some-clause-given : goal.returns-in-Some-clause-given
returns-in-Some-clause-given c =
    matched c.with_budget.result (no_options_after _ _ c.in-Some.ensures) (λ options has. options_after _ _ options c.in-Some.ensures has) c.with_budget.ensures.given

pub returns-in-None-clause-given : goal.returns-in-None-clause-given
returns-in-None-clause-given c =
    matched c.with_budget-in-None.result (no_options _ c.in-None.ensures) (λ options has. options_given _ options has) c.with_budget-in-None.ensures.given
