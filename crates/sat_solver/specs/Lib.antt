-- What the outcome of a call says of its formula.
pub mod Outcome
pub mod inner
