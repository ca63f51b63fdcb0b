-- The text of a protocol that is made from a number.
pub mod Stage
