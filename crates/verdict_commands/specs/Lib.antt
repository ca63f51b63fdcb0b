-- What the commands on a protocol alone answer; what private functions cite is last.
pub mod VerifyAnswer
pub mod ExpandAnswer
pub mod DeadAnswer
pub mod MessageLines
pub mod EnactedRun
pub mod inner
