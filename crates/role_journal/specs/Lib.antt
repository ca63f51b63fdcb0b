-- What the contracts of this crate cite, in reading order.
pub mod Image
pub mod Crash
pub mod Counts
pub mod Journal
pub mod EntryBody
pub mod Recording
pub mod RecordLaws
pub mod Stop
pub mod inner
