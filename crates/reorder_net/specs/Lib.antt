-- What a plan loses, what a mailbox's rule says and what its passes know, and what an inbox holds;
-- what private functions cite is last.
pub mod Losses
pub mod Mail
pub mod Hold
pub mod Pass
pub mod Passes
pub mod Gathered
pub mod Inbox
pub mod inner
