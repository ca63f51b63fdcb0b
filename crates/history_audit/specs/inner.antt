-- What only private functions cite.
pub mod Waits
pub mod Places
pub mod Merging
pub mod Rings
pub mod Reading
