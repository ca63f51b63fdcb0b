-- Which kinds a happening has, the condition and the formula of a question, how large that is, and
-- the laws.
pub mod Happenings
pub mod Conditions
pub mod Formula
pub mod Size
pub mod Laws
pub mod Liveness
pub mod inner
