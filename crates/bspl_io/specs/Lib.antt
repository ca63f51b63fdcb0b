-- What the contracts of this crate cite.
pub mod Source
pub mod Sink
pub mod Faults
pub mod Traffic
pub mod Refusal
pub mod Memory
pub mod Schedule
