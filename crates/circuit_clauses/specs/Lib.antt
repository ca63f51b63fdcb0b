-- The definitions that the contracts cite, in reading order.
pub mod Condition
pub mod Asserted
pub mod Laws
