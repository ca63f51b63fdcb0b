pub mod FormulaLemmas
pub mod RangeLemmas
pub mod RivalLemmas
pub mod OutcomeLemmas
pub mod RunLemmas
