-- What private functions alone cite.
pub mod SortedDocument
pub mod PathTotals
pub mod Oversized
