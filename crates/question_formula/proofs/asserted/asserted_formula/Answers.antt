-- The variables of all clauses exist.
use Rattle.circuit_clauses.specs.Condition.{condition_of}
use Rattle.question_formula.proofs.VariableLemmas.{asserted_exist}
use Rattle.question_formula.proofs.asserted.asserted_formula.Goals as goal

pub invariant_of-result : goal.invariant_of-result
invariant_of-result c = record {
  variables_exist = asserted_exist c.variables_are_further.ensures c.args.vars c.new-clauses.result c.push_asserted.new.clauses (condition_of c.args.c.now) c.in-Some.all
      c.new-clauses.ensures c.in-Some.ensures.are c.requires c.in_ok-push_asserted.ensures.clauses;
}
