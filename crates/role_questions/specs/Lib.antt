-- Questions to a live role, what they mean and how they are answered; what it may send, and what it
-- knows; what it replies to lines; laws.
pub mod Questions
pub mod Meaning
pub mod Answers
pub mod Known
pub mod Forms
pub mod Laws
pub mod Asked
pub mod AskedLaws
pub mod inner
