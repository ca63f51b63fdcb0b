pub mod MomentLemmas
pub mod RestLemmas
pub mod QuietLemmas
pub mod SameLemmas
pub mod ConflictLemmas
