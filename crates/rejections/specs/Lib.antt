-- Why a part of the input is rejected, and the line of a log's first failure.
pub mod PartRejection
pub mod FailureLine
