-- The lines of an output are those of an answer.
use Rattle.more_commands.proofs.TruthLemmas.{accepted_true, impossible_true, possible_true}
use Rattle.more_commands.proofs.laws.answers_are_true.Goals as goal

pub returns-clause-possible : goal.returns-clause-possible
returns-clause-possible c = λ args input out ends x tree options q asked asks output says.
    possible_true c.asks_once.ensures.once c.texts_are_judged_once.ensures.declaration args input x c.possibilities_are_true.ensures.possible out ends tree options q asked asks output says

pub returns-clause-impossible : goal.returns-clause-impossible
returns-clause-impossible c = λ args input out ends x tree options q asked asks output says.
    impossible_true c.asks_once.ensures.once c.texts_are_judged_once.ensures.declaration args input x c.possibilities_are_true.ensures.impossible out ends tree options q asked asks output says

pub returns-clause-accepted : goal.returns-clause-accepted
returns-clause-accepted c = λ args input text out ends x tree q asked read asks output says.
    accepted_true c.asks_once.ensures.once c.texts_are_judged_once.ensures.declaration args input x c.possibilities_are_true.ensures.accepted text out ends tree q asked read asks output says
