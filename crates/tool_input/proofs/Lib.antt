pub mod PartLines
pub mod FirstPart
pub mod OneRefusal
pub mod Unasked
pub mod InputReplies
pub mod Replies
