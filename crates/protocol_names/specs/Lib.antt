-- The names of a document, the faults that it may have, and the laws on them.
pub mod Names
pub mod Plain
pub mod FaultOrder
pub mod Fault
pub mod Laws
pub mod inner
