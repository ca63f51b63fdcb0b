-- What only private functions cite.
pub mod Known
pub mod Reach
