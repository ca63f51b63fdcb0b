-- Arguments and what they request; what outputs of `ask`, `formula`, `page` and `explain` come to.
pub mod FormulaLemmas
pub mod AskLemmas
pub mod RequestLemmas
pub mod TruthLemmas
pub mod FormulaOutput
pub mod LratLemmas
pub mod PageLemmas
pub mod PlayLemmas
pub mod VerdictLemmas
pub mod WordLemmas
pub mod ToolLemmas
