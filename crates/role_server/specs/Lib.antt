-- Which reply each line gets; what a role writes for a stream of lines, and how far it comes; what a
-- live role writes; that all of this is one.
pub mod Replies
pub mod Served
pub mod Stream
pub mod Live
pub mod Laws
pub mod LiveLaws
pub mod inner
