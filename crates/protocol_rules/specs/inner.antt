-- What only private functions cite.
pub mod FaultOffset
pub mod FirstFault
