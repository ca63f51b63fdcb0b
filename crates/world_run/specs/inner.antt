-- What only private functions cite.
pub mod Readable
pub mod Unknown
pub mod InProgress
pub mod Idle
pub mod Steps
pub mod Opened
pub mod Undelivered
pub mod Ending
pub mod Work
pub mod Locks
pub mod Released
