-- What only private functions cite.
pub mod Added
pub mod AskedUnread
pub mod FormOf
pub mod Found
pub mod Written
