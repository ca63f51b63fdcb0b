-- The texts that report on a run, on a protocol and on histories, in reading order.
pub mod Keys
pub mod Status
pub mod ReplayLines
pub mod ReplayText
pub mod VerdictText
pub mod ExitStatus
pub mod WorldText
pub mod WorldCounts
pub mod WorldRows
pub mod Summary
pub mod AuditText
pub mod Laws
pub mod inner
