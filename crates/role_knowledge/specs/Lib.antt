-- The first value that a role knows, what blocks an emission, and that each answer is the only one.
pub mod FirstKnown
pub mod Blocked
pub mod Laws
pub mod inner
