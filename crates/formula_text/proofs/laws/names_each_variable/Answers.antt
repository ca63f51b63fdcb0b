-- The numbers of the legend.
use Rattle.bspl_types.specs.declared.property.Property.TheVariants.{Safety}
use Rattle.formula_text.proofs.Numbering.{legend_numbered}
use Rattle.formula_text.proofs.laws.names_each_variable.Goals as goal

pub returns-clause-property : goal.returns-clause-property
returns-clause-property c = λ property x f is. legend_numbered property x f.vars is.vars

pub returns-clause-message : goal.returns-clause-message
returns-clause-message c = λ x message f is. legend_numbered Safety x f.vars is.vars
