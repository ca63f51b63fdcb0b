-- The definitions that the contracts cite, in reading order.
pub mod ChainFailure
pub mod FirstFailure
pub mod Derivation
pub mod inner
