-- A world has a desk for each role: its histories, the run and the table of them, when it is settled,
-- and what threads leave of it.
pub mod World
pub mod Finished
pub mod FinishedTable
pub mod Sent
pub mod Course
pub mod Renewal
pub mod Settling
pub mod Joined
pub mod Shared
pub mod Told
pub mod Laws
pub mod inner
