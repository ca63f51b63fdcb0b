-- What one call promises, then the form of its input, the verdicts, laws, why there is none, and the lines.
pub mod Call
pub mod Output
pub mod Arguments
pub mod Dimacs
pub mod RefusedLine
pub mod Verdict
pub mod FormulaLaws
pub mod Refusal
pub mod AnswerText
pub mod Status
-- What only private functions cite.
pub mod inner
