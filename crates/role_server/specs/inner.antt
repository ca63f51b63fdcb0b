-- What only private functions cite.
pub mod Acts
pub mod Unread
pub mod LiveActs
pub mod LiveUnread
