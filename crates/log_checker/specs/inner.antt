-- What only private functions cite.
pub mod Stops
pub mod Marks
pub mod Table
