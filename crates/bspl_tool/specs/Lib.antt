-- What the tool promises, in the order in which it is read; what private functions cite is last.
pub mod Headline
pub mod Claims
pub mod Interface
pub mod Request
pub mod Task
pub mod Texts
pub mod Laws
pub mod inner
