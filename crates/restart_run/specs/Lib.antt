-- What may happen in a world whose roles are restarted, and which run it makes; what is asked of
-- disks, and what a job that is played over them leaves.
pub mod Steps
pub mod Laws
pub mod Disks
pub mod OneWorld
pub mod Restarted
pub mod StopDisks
pub mod inner
