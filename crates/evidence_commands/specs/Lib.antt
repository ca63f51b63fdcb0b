-- What the commands on a log, a run or histories answer.
pub mod CheckAnswer
pub mod CheckDeadAnswer
pub mod ReplayAnswer
pub mod AuditAnswer
