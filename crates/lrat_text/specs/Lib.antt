-- What a proof is and when a checker accepts it, its text, and how it comes from a log; what private
-- functions cite is last.
pub mod Lrat
pub mod Text
pub mod Proof
pub mod inner
