-- What only private functions cite.
pub mod KeyLines
pub mod Counts
pub mod Totals
