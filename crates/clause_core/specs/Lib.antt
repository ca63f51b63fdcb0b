-- The definitions that the contracts cite, in reading order.
pub mod Literal
pub mod Clause
pub mod Written
pub mod Assignment
pub mod Resolvent
pub mod Propagation
pub mod Numbering
pub mod inner
