-- What private functions alone cite.
pub mod Search
