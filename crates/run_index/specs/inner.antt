-- What only private functions cite.
pub mod Chain
pub mod Enactment
pub mod Facts
pub mod Knowing
pub mod Waiting
pub mod Demands
pub mod Failures
