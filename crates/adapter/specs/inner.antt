-- What only private functions cite.
pub mod NextStep
pub mod Received
