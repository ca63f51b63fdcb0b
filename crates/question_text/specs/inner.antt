-- What only private functions cite: the reader, word by word.
pub mod Keyword
pub mod Piece
pub mod Pending
pub mod Progress
pub mod Step
pub mod Reading
pub mod Fault
pub mod Spaced
