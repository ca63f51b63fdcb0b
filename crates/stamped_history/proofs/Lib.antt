pub mod CursorLemmas
pub mod ExtendedLemmas
pub mod LowestLemmas
pub mod MergedLemmas
pub mod OnceLemmas
pub mod PlayedLemmas
pub mod RisingLemmas
pub mod RunLemmas
