pub mod CheckAnswers
pub mod CheckDeadAnswers
pub mod AuditAnswers
