-- When a log is accepted for a protocol's formula, and its first failure otherwise.
pub mod Check
pub mod Laws
