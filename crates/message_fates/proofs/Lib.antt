pub mod FateLemmas
pub mod KnownLemmas
pub mod ReachLemmas
pub mod RunLemmas
