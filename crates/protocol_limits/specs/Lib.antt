-- The definitions that the contracts cite, in reading order: what refers to what, what is counted,
-- the limits, which protocols may be skipped, what a survey comes to, and the laws.
pub mod Graph
pub mod Counts
pub mod Limits
pub mod Reported
pub mod Survey
pub mod Laws
-- what private functions alone cite
pub mod inner
