pub mod AppendLemmas
pub mod ListLemmas
pub mod DeniedLemmas
pub mod MeaningLemmas
pub mod BelowLemmas
pub mod ModelLemmas
