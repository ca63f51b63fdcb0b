-- Logs against the formula of a protocol and a property.
use Rattle.bspl_types.specs.declared.expanded.Expanded.{Expanded}
use Rattle.bspl_types.specs.declared.property.Property.{Property}
use Rattle.bspl_types.specs.declared.property.Property.TheVariants.{Liveness, Safety}
use Rattle.clause_core.specs.declared.formula.Formula.{Formula}
use Rattle.clause_encoding.specs.Formula.{IsFormula}
use Rattle.log_checker.specs.declared.refusal.Reject.{Reject}
use Rattle.log_checker.specs.FirstFailure.{FailsFirst}
use Rattle.refutation_log.specs.declared.refutation.Kind.{Kind}
use Rattle.refutation_log.specs.declared.refutation.Kind.TheVariants as kinds
use Rattle.refutation_log.specs.declared.refutation.Log.{Log}
use Rattle.refutation_log.specs.Resolution.{Accepts}

-- the property that an accepted log of the kind proves
abbrev pub property_of : Kind → Property
property_of kinds.Safety = Safety
property_of kinds.Liveness = Liveness

-- the log derives the empty clause from the formula
pub record AcceptsLog (property : Property) (x : Expanded) (log : Log) : Type 0 where
  pub formula : Formula
  pub is_formula : IsFormula property x formula
  pub accepts : Accepts formula log

-- it does not, and this is its first failure
pub record FailsLog (property : Property) (x : Expanded) (log : Log) (reject : Reject)
    : Type 0 where
  pub formula : Formula
  pub is_formula : IsFormula property x formula
  pub fails : FailsFirst formula log reject

-- both for safety
abbrev pub AcceptsSafety : Expanded → Log → Type 0
AcceptsSafety x log = AcceptsLog Safety x log

abbrev pub FailsSafety : Expanded → Log → Reject → Type 0
FailsSafety x log reject = FailsLog Safety x log reject

-- both for liveness
abbrev pub AcceptsLiveness : Expanded → Log → Type 0
AcceptsLiveness x log = AcceptsLog Liveness x log

abbrev pub FailsLiveness : Expanded → Log → Reject → Type 0
FailsLiveness x log reject = FailsLog Liveness x log reject
