pub mod LiteralLemmas
pub mod ClauseLemmas
pub mod ResolventLemmas
pub mod MergeLemmas
pub mod DistinctLemmas
pub mod AscendingLemmas
