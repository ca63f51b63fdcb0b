-- The definitions that the contracts cite, in reading order.
pub mod Tree
pub mod Levels
pub mod QuestionText
pub mod Laws
pub mod Meaning
pub mod Unknown
pub mod MeaningLaws
pub mod inner
