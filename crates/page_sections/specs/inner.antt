-- What only private functions cite.
pub mod Rules
pub mod Values
