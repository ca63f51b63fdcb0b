-- What only private functions cite.
pub mod Found
pub mod Asked
pub mod Arriving
pub mod Sorted
pub mod NamedValues
