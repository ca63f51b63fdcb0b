-- Each clause that is there is one of the first ones or of the others.
use Rattle.question_formula.proofs.OwnLemmas.{some_exist}
use Rattle.question_formula.proofs.own_clauses.put_behind.Goals as goal

pub invariant_of-f : goal.invariant_of-f
invariant_of-f c = record {
  variables_exist = some_exist c.args.own.now c.cut.new.clauses c.append_copies.new.clauses (rw c.cut.ensures c.requires.exist) c.append_copies.ensures.some;
}
