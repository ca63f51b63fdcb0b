-- What only private functions cite.
pub mod Pair
pub mod Source
pub mod Starts
