-- The lines of an answer are true of the question that is asked.
use Rattle.ask_commands.proofs.TruthLemmas.{accepted_impossible, said_impossible, said_possible}
use Rattle.ask_commands.proofs.laws.possibilities_are_true.Goals as goal

pub returns-clause-possible : goal.returns-clause-possible
returns-clause-possible c = said_possible (record { question = c.means_once.ensures.question; answer = c.same_has_same_answer.ensures })

pub returns-clause-impossible : goal.returns-clause-impossible
returns-clause-impossible c = said_impossible (record { question = c.means_once.ensures.question; answer = c.same_has_same_answer.ensures })

pub returns-clause-accepted : goal.returns-clause-accepted
returns-clause-accepted c = accepted_impossible (record { question = c.means_once.ensures.question; answer = c.same_has_same_answer.ensures }) c.one_question.ensures.tree
