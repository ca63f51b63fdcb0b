-- What only private functions cite.
pub mod LitSet
pub mod Lines
