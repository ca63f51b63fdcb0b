-- The fates of messages; what private functions cite is last.
pub mod Fates
pub mod inner
