-- Few clauses and variables, and the lines as they are read.
use Rattle.std.proofs.Common.{arith}
use Rattle.bspl_types.specs.declared.property.Property.TheVariants.{Safety}
use Rattle.clause_encoding.specs.Formula.{clauses_of}
use Rattle.enactability.specs.EnactFormula.{enact_clauses}
use Rattle.formula_text.proofs.Reading.{text_read}
use Rattle.formula_text.proofs.laws.reads_back.Goals as goal

pub returns-clause-property : goal.returns-clause-property
returns-clause-property c = λ property x f is. text_read property x f
    (omega (arith, is.vars, c.variables_are_small.ensures.few property x))
    (omega (arith, c.clauses_are_as_many.ensures (clauses_of property x) f.clauses is.clauses, c.clauses_are_few.ensures property x))

pub returns-clause-message : goal.returns-clause-message
returns-clause-message c = λ x message f is. text_read Safety x f
    (omega (arith, is.vars, c.variables_are_small.ensures.few Safety x))
    (omega (arith, c.clauses_are_as_many.ensures (enact_clauses x message) f.clauses is.clauses, c.enact_clauses_are_few.ensures x message))
