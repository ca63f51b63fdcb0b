-- Histories and what explains them, bad places, cycles, and what an audit answers; the text of
-- histories, its first bad line, and that there is one; what private functions cite comes last.
pub mod Histories
pub mod BadPlace
pub mod Cycle
pub mod Audit
pub mod HistoryText
pub mod Refusal
pub mod TextLaws
pub mod inner
