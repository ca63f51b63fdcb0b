pub mod BracesLemmas
pub mod OffsetLemmas
pub mod OnceLemmas
pub mod PartLemmas
pub mod ReadingLemmas
