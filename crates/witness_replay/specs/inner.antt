-- What only private functions cite.
pub mod Order
pub mod Steps
pub mod Values
