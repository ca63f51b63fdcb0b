-- A formula without a model speaks of every legal run, over any number of keys.
use Rattle.bspl_types.specs.declared.expanded.Expanded.{Expanded}
use Rattle.bspl_types.specs.declared.property.Property.{Property}
use Rattle.bspl_types.specs.Admission.{IsAdmitted}
use Rattle.clause_core.specs.declared.formula.Formula.{Formula}
use Rattle.clause_core.specs.Clause.{IsUnsatisfiable}
use Rattle.clause_encoding.specs.Formula.{IsFormula}
use Rattle.enactment_model.specs.Property.{Holds}

-- the protocol has the property if no assignment satisfies the formula of both
abbrev pub UnsatisfiableHolds : Type 0
UnsatisfiableHolds =
    (property : Property) (x : Expanded) (f : Formula) → IsAdmitted x → IsFormula property x f →
    IsUnsatisfiable f.clauses → Holds property x
