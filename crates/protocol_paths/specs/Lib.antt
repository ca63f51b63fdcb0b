-- Paths along references, the flat protocol of a protocol, and the laws on them.
pub mod Path
pub mod Prefix
pub mod Scope
pub mod Substituted
pub mod Flat
pub mod FlatProtocol
pub mod Followed
pub mod ReferencePath
pub mod Position
pub mod Composition
pub mod Laws
pub mod inner
