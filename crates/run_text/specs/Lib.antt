-- The definitions that the contracts cite, in reading order.
pub mod RunText
pub mod Refusal
pub mod Names
pub mod inner
