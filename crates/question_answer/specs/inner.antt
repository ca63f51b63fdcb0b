-- What only private functions cite.
pub mod Moment
pub mod Models
pub mod Title
