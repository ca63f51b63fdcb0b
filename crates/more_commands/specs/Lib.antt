-- What one call promises: the commands and their arguments; then what each answers, and the laws.
-- What private functions cite is last.
pub mod Call
pub mod Interface
pub mod Task
pub mod FormulaArguments
pub mod FormulaAnswer
pub mod LratAnswer
pub mod PageAnswer
pub mod Given
pub mod StatusWords
pub mod ExplainAnswer
pub mod AskWords
pub mod ExplainAsk
pub mod Laws
pub mod inner
