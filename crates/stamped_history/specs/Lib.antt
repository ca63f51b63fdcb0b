-- A role's stamped history, what explains its receipts, the run of all histories, what holds of it;
-- the rules of agents, which runs they play, when these are settled, and what a run's table has.
pub mod Entries
pub mod Local
pub mod Explained
pub mod Merged
pub mod Extended
pub mod Laws
pub mod Rules
pub mod Played
pub mod Settled
pub mod TableValue
pub mod PlayedLaws
pub mod inner
