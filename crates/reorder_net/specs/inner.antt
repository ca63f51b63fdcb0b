-- What only private functions cite.
pub mod Slots
pub mod Counts
pub mod Moves
pub mod Stock
pub mod Joins
