-- What only private functions cite.
pub mod Carrying
pub mod Rest
