-- What contracts see of a store, what is true of each, and what its calls answer and change.
pub mod State
pub mod Outline
pub mod Consistent
pub mod Emission
pub mod Reception
pub mod Laws
pub mod inner
