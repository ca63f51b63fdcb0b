-- What only private functions cite.
pub mod Begun
pub mod Gates
