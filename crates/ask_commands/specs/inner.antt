-- What only private functions cite.
pub mod Request
pub mod Text
pub mod Rules
