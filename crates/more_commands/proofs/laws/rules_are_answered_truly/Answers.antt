-- The status of an output is that of an answer.
use Rattle.more_commands.proofs.TruthLemmas.{broken_true, kept_true}
use Rattle.more_commands.proofs.laws.rules_are_answered_truly.Goals as goal

pub returns-clause-kept : goal.returns-clause-kept
returns-clause-kept c = λ args input out x options sense q asked output rule_in.
    kept_true c.asks_once.ensures.once c.texts_are_judged_once.ensures.declaration args input x c.rules_are_judged_truly.ensures.kept out options sense q asked output rule_in

pub returns-clause-broken : goal.returns-clause-broken
returns-clause-broken c = λ args input out x options asked output.
    broken_true c.asks_once.ensures.once c.texts_are_judged_once.ensures.declaration args input x c.rules_are_judged_truly.ensures.broken out options asked output
