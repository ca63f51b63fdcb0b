-- What only private functions cite.
pub mod Grids
pub mod Cells
pub mod Acts
pub mod Blocks
pub mod FilledValues
pub mod Difference
pub mod Kept
pub mod Appended
