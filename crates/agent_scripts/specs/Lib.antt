-- The definitions that the contracts cite, in reading order; what no public contract cites is last.
pub mod Lines
pub mod Table
pub mod Statement
pub mod Rules
pub mod Script
pub mod StatedScript
pub mod ScriptText
pub mod Refusal
pub mod Laws
pub mod Fitting
pub mod Plan
pub mod Job
pub mod inner
