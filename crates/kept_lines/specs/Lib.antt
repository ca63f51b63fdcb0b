-- What the contracts of this crate cite.
pub mod Text
pub mod CrashImage
pub mod Passage
pub mod Refusal
pub mod Memory
pub mod FileKind
pub mod FileCalls
pub mod FoundLines
pub mod FileJournal
pub mod Answers
pub mod Flow
pub mod Stream
pub mod StreamEnd
pub mod Restored
pub mod Replay
pub mod inner
