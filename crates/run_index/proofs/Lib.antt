pub mod PartLemmas
pub mod RestLemmas
pub mod ChainLemmas
pub mod WalkLemmas
pub mod FailureLemmas
pub mod LegalLemmas
pub mod EmissionLemmas
pub mod ConflictLemmas
mod FactLemmas
mod PermissionLemmas
mod AddLemmas
