-- What only private functions cite.
pub mod Emission
pub mod Sent
pub mod Search
pub mod Title
