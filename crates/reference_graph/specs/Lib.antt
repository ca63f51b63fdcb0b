-- The definitions that the contracts cite, in reading order.
pub mod Graph
pub mod Path
pub mod Cycle
pub mod Order
pub mod WalkResult
pub mod PathCounts
pub mod Laws
-- what private functions alone cite
pub mod inner
