-- The answers with their evidence, logs against the formula of a question, the text of such a log,
-- and the laws.
pub mod Answer
pub mod Check
pub mod QuestionLog
pub mod Laws
pub mod inner
