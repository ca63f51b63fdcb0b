-- The run of an assignment, the run that it gives to refute a property, and the laws.
pub mod Witness
pub mod Refuting
pub mod Laws
pub mod inner
