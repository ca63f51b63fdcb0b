-- What only private functions cite.
pub mod Keeping
pub mod Roles
pub mod Midway
