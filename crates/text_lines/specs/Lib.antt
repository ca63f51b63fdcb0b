-- The definitions that the contracts cite, in reading order.
pub mod Fields
pub mod Decimal
pub mod inner
