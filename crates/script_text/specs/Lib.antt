-- What is read of a text, and its laws; what private functions cite is last.
pub mod Reading
pub mod Laws
pub mod inner
