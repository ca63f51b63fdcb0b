-- What only private functions cite.
pub mod LineEnd
pub mod LineReading
pub mod Statements
pub mod TextReading
