-- What private functions alone cite.
pub mod Flat
pub mod KnownNames
