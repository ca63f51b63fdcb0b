-- Ranges and filtered lists; how long lists are; kinds; what is appended; which variables exist; and
-- what follows for the formulas.
mod RangeLemmas
mod FilterLemmas
mod LengthLemmas
mod ClauseLengths
mod KindLemmas
mod AppendsLemmas
mod OccurrenceLemmas
mod VariableLemmas
mod ExistenceLemmas
mod FamilyLemmas
mod FormulaLemmas
mod SafetyLemmas
mod LackingLemmas
mod RestLemmas
mod PropertyLemmas
mod OrderLemmas
mod SharedLemmas
