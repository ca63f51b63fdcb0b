-- What a line asks for, what that means for a role, the replies as text, and laws of both.
pub mod Request
pub mod Texts
pub mod Meaning
pub mod Reply
pub mod Laws
pub mod inner
