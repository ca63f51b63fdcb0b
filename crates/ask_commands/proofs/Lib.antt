pub mod ArgumentLemmas
pub mod RequestLemmas
pub mod TruthLemmas
pub mod RuleLemmas
pub mod JudgedLemmas
pub mod AskedLemmas
pub mod CheckLemmas
pub mod JudgeLemmas
