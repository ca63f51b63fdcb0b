-- The law, from its lemma.
use Rattle.clause_encoding.proofs.PropertyLemmas.{variables_few, variables_over}
use Rattle.clause_encoding.proofs.laws.variables_are_small.Goals as goal

pub returns-clause-small : goal.returns-clause-small
returns-clause-small c = λ property x. (variables_over property x).small

pub returns-clause-few : goal.returns-clause-few
returns-clause-few c = variables_few
