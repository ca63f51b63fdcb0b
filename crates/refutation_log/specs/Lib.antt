-- The definitions that the contracts cite, in reading order.
pub mod RemovalOrder
pub mod Entries
pub mod Cursor
pub mod Ledger
pub mod Resolution
pub mod ResolutionLaws
pub mod NumberRange
pub mod LogText
pub mod Refusal
pub mod TextLaws
pub mod LineParts
pub mod inner
