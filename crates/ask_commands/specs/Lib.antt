-- What `ask` promises: its arguments, what each task answers, and the laws; what private functions
-- cite is last.
pub mod AskArguments
pub mod AskTask
pub mod Misread
pub mod AskCommand
pub mod AskAnswer
pub mod TitledQuestion
pub mod CheckAnswer
pub mod Judgement
pub mod RulesAnswer
pub mod AskedRules
pub mod AskRules
pub mod Claims
pub mod Laws
pub mod inner
