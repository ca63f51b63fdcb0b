-- The definitions that the contracts cite, in reading order.
pub mod Happening
pub mod Answer
pub mod Subject
pub mod Same
pub mod Laws
pub mod Conflict
pub mod inner
