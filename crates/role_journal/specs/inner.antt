-- What only private functions cite.
pub mod Steps
pub mod Reading
