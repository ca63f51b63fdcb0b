-- What only private functions cite.
pub mod Chosen
pub mod Kinds
pub mod Order
pub mod Occurrence
pub mod Implications
pub mod Selection
pub mod Lacking
