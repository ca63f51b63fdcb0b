-- The words of a refusal, from their parts up;
-- the words of verdicts, and what they name;
-- what private functions cite is last.
pub mod Place
pub mod Fault
pub mod Sentences
pub mod LimitText
pub mod ByteAdvice
pub mod ScriptRule
pub mod Nearest
pub mod Exclusion
pub mod PartLines
pub mod RefusedPlace
pub mod Choices
pub mod Uses
pub mod Arity
pub mod Ways
pub mod Namings
pub mod Meant
pub mod Detail
pub mod Refusal
pub mod Messages
pub mod Safety
pub mod Producers
pub mod Liveness
pub mod VerdictText
pub mod Laws
pub mod inner
