pub mod Padded
pub mod Pieces
pub mod Spelling
