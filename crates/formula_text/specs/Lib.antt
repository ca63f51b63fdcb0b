-- What the variables of a formula mean, then its text, and the laws; the same of a question; what
-- private functions cite is last.
pub mod Legend
pub mod FormulaText
pub mod Laws
pub mod AskedText
pub mod AskedLaws
pub mod inner
