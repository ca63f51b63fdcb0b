-- What a search finds; when a decision is right, and the verdicts on safety and on liveness; which
-- numbers their logs have.
pub mod Search
pub mod Decision
pub mod Right
pub mod RightLiveness
pub mod Numbers
pub mod Verdicts
pub mod inner
