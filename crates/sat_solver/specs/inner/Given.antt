-- What a formula is that is given with or without an order.
use Rattle.clause_core.specs.declared.formula.Formula.{Formula}
use Rattle.order_axioms.specs.Formula.{whole}
use Rattle.sat_solver.specs.declared.given_formula.FormulaSource.{FormulaSource}
use Rattle.sat_solver.specs.declared.given_formula.FormulaSource.TheVariants.{Ordered, Plain}

-- the formula with all its clauses
abbrev pub source_formula : FormulaSource → Formula
source_formula (Plain f) = f.now
source_formula (Ordered f) = whole f.now
