-- What only private functions cite.
pub mod Question
pub mod Proof
pub mod Section
pub mod Beside
