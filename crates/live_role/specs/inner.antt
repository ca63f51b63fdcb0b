-- What only private functions cite.
pub mod Request
pub mod Opening
pub mod Judged
pub mod Begun
pub mod Prepared
