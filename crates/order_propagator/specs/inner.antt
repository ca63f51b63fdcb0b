-- What only private functions cite.
pub mod Bits
pub mod Pairs
pub mod OrderRows
pub mod BitRows
pub mod Names
pub mod Whole
pub mod Closed
pub mod Making
pub mod Closing
pub mod Rows
