-- What can be enacted comes first, then the formula that decides it, the answers with their
-- evidence, logs against the formula and the text of such a log, and the laws.
pub mod Enactable
pub mod EnactFormula
pub mod Answer
pub mod Check
pub mod DeadText
pub mod Refusal
pub mod Laws
pub mod inner
